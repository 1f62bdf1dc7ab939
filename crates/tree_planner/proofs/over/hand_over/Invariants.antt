use Rattle.std.proofs.Common.{ℕ, ◌+◌, ◌<◌, ◌≤◌, get_or}
use Rattle.tree_flow.specs.declared.nodes.End.{End}
use Rattle.tree_flow.specs.State.{reach_cost}
use Rattle.tree_planner.specs.Ends.{IsOf}
use Rattle.tree_planner.specs.Searching.{far_at, state_at, wave_of, worth_at, Improves, IsLeaving, IsOutBy, IsOverTo, IsSearching}
use Rattle.tree_planner.proofs.Grouped.{first}
use Rattle.tree_planner.proofs.over.hand_over.Given as goal

abbrev pub invariant-loop-group : goal.invariant-loop-group
invariant-loop-group l = record {
  searching : IsSearching l.ground l.search;
  improves : Improves l.fn.search l.search;
  leaving : IsLeaving l.ground l.search l.leaving;
  out : l.search.bound + reach_cost (wave_of l.ground) (state_at l.ground) l.leaving.split l.leaving.end
      ≤ far_at l.search l.leaving.end.node + worth_at l.ground;
  over : (k : ℕ) → k < l.group-index → (x : End)
      → IsOf (wave_of l.ground).tree (IsOutBy l.ground l.ends) (get_or l.ends.groups k first) x
      → IsOverTo l.ground l.search l.leaving.end l.leaving.split x;
}
