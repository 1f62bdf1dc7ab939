use Rattle.std.proofs.Common.{◌≡◌, ℕ, ◌<◌, get_or}
use Rattle.tree_flow.specs.declared.nodes.End.{End}
use Rattle.tree_planner.specs.Ends.{IsBarred, IsOf}
use Rattle.tree_planner.specs.SearchingBack.{wave_of, Improves, IsInto, IsSearching}
use Rattle.tree_planner.proofs.Grouped.{first}
use Rattle.tree_planner.proofs.back.over_split.Given as goal

abbrev pub invariant-loop-group : goal.invariant-loop-group
invariant-loop-group l = record {
  hole : l.search.hole ≡ l.fn.search.hole;
  searching : IsSearching l.hollow l.search;
  improves : Improves l.fn.search l.search;
  over : (k : ℕ) → k < l.group-index → (x : End)
      → IsOf (wave_of l.hollow).tree (IsBarred (wave_of l.hollow).tree l.ends.barred) (get_or l.ends.groups k first) x
      → IsInto l.hollow l.search l.node l.split x;
}
