use Rattle.std.proofs.Common.{◌≡◌, ℕ, ◌<◌, slice_index}
use Rattle.tree_planner.proofs.like.has_same_racks.Given as goal

abbrev pub invariant-loop-w : goal.invariant-loop-w
invariant-loop-w l = (k : ℕ) → k < l.w → slice_index l.one.rack_of k ≡ slice_index l.other.rack_of k
