use Rattle.std.proofs.Common.{◌≡◌, ℕ, ◌<◌, length}
use Rattle.tree_planner.specs.Events.{other_at, IsOtherEnds}
use Rattle.tree_planner.proofs.turn.other_ends.Given as goal

abbrev pub invariant-loop-s : goal.invariant-loop-s
invariant-loop-s l = record {
  size : length l.others.items ≡ l.s;
  each : (k : ℕ) → k < l.s → IsOtherEnds l.problem l.next k (other_at l.others.items k);
}
