use Rattle.std.proofs.Common.{ℕ, ◌<◌}
use Rattle.tree_planner.specs.Engine.{IsStanding}
use Rattle.tree_planner.specs.Events.{IsOffIfChanged}
use Rattle.tree_planner.specs.View.{state_of}
use Rattle.tree_planner.proofs.turn.withdraw_changed.Given as goal

abbrev pub invariant-loop-s : goal.invariant-loop-s
invariant-loop-s l = record {
  standing : IsStanding l.problem l.tables;
  gone : (k : ℕ) → k < l.s → IsOffIfChanged (state_of l.tables) l.others k;
}
