use Rattle.std.proofs.Common.{◌≡◌, ℕ, ◌<◌}
use Rattle.tree_flow.specs.State.{slots_of}
use Rattle.tree_planner.proofs.like.has_same_slots.Given as goal

abbrev pub invariant-loop-w : goal.invariant-loop-w
invariant-loop-w l = (k : ℕ) → k < l.w → slots_of l.other k ≡ slots_of l.one k
