use Rattle.std.proofs.Common.{◌+◌, ◌≤◌, length}
use Rattle.augmenting_paths.proofs.trail.Trail.find.Given as goal

abbrev pub invariant-loop-left : goal.invariant-loop-left
invariant-loop-left g l = l.left ≤ length l.matched + length l.inner

abbrev pub decreases-loop-left : goal.decreases-loop-left
decreases-loop-left g l = l.left
