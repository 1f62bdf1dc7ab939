use Rattle.std.proofs.Common.{◌≡◌, length}
use Rattle.augmenting_paths.proofs.trail.open_ends.Given as goal

abbrev pub invariant-loop-arc : goal.invariant-loop-arc
invariant-loop-arc g l = length l.closed ≡ length l.initial.closed
