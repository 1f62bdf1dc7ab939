use Rattle.std.proofs.Common.{◌≡◌, ℕ, ◌<◌, ◌↔◌, length}
use Rattle.tree_flow.specs.declared.nodes.End.{End}
use Rattle.tree_planner.specs.Ends.{ends_at, HasEnd}
use Rattle.tree_flow.specs.Nodes.{IsEnd}
use Rattle.tree_planner.proofs.split_ends.all_ends.Given as goal

abbrev pub invariant-loop-s : goal.invariant-loop-s
invariant-loop-s l = record {
  size : length l.all ≡ l.s;
  each : (s : ℕ) → s < l.s → (e : End) → HasEnd l.problem.tree (ends_at l.all s) e ↔ IsEnd l.problem s e;
}
