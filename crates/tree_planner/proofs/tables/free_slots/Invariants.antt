use Rattle.std.proofs.Common.{◌≡◌, ℕ, ◌<◌, length, slice_index}
use Rattle.tree_flow.specs.State.{slots_of}
use Rattle.tree_planner.proofs.tables.free_slots.Given as goal

abbrev pub invariant-loop-w : goal.invariant-loop-w
invariant-loop-w l = record {
  size : length l.free.items ≡ l.w;
  slots : (k : ℕ) → k < l.w → slice_index l.free.items k ≡ slots_of l.problem k;
}
