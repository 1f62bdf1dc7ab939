use Rattle.std.proofs.Common.{ℕ, ◌<◌, get_or}
use Rattle.tree_flow.specs.declared.nodes.End.{End}
use Rattle.tree_planner.specs.Ends.{IsOf}
use Rattle.tree_planner.specs.Searching.{wave_of, Improves, IsOutBy, IsSearching, IsStartedAt}
use Rattle.tree_planner.proofs.Grouped.{first}
use Rattle.tree_planner.proofs.search.start.Given as goal

abbrev pub invariant-loop-group : goal.invariant-loop-group
invariant-loop-group l = record {
  searching : IsSearching l.ground l.search;
  improves : Improves l.fn.search l.search;
  started : (k : ℕ) → k < l.group-index → (x : End)
      → IsOf (wave_of l.ground).tree (IsOutBy l.ground l.ends) (get_or l.ends.groups k first) x
      → IsStartedAt l.ground l.search x;
}
