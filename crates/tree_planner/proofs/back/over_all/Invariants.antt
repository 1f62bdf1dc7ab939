use Rattle.std.proofs.Common.{◌≡◌, ℕ, ◌<◌}
use Rattle.tree_planner.specs.SearchingBack.{AreInto, Improves, IsSearching}
use Rattle.tree_planner.proofs.back.over_all.Given as goal

abbrev pub invariant-loop-t : goal.invariant-loop-t
invariant-loop-t l = record {
  hole : l.search.hole ≡ l.fn.search.hole;
  searching : IsSearching l.hollow l.search;
  improves : Improves l.fn.search l.search;
  over : (t : ℕ) → t < l.t → AreInto l.hollow l.search l.node t;
}
