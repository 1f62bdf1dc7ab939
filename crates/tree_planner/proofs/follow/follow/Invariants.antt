use Rattle.std.proofs.Common.{◌≡◌}
use Rattle.std.specs.Prelude.{MatchOption}
use Rattle.tree_planner.specs.View.{state_of, AreTables}
use Rattle.tree_planner.specs.Way.{left_of, AreOthersSame, IsFollowing, IsShipped}
use Rattle.tree_planner.proofs.follow.follow.Given as goal

abbrev pub invariant-loop-hole : goal.invariant-loop-hole
invariant-loop-hole l = record {
  depth : l.tables.depth ≡ l.fn.tables.depth;
  terms : (state_of l.tables).terms ≡ (state_of l.fn.tables).terms;
  tables : AreTables l.problem l.tables;
  hole : MatchOption l.hole (IsShipped l.problem (state_of l.tables) l.search.split)
      (λ node. IsFollowing l.problem (state_of l.tables) l.search node);
  others : AreOthersSame (state_of l.fn.tables) (state_of l.tables) l.search.split;
}

abbrev pub decreases-loop-hole : goal.decreases-loop-hole
decreases-loop-hole l = left_of l.search l.hole
