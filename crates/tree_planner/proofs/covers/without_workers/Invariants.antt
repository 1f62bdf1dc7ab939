use Rattle.std.proofs.Common.{◌≡◌, ◌<◌, All, length}
use Rattle.tree_planner.proofs.covers.without_workers.Given as goal

abbrev pub invariant-loop-r : goal.invariant-loop-r
invariant-loop-r l = record {
  size : length l.centre_of.items ≡ l.r;
  known : All (λ centre. centre < l.tree.centres) l.centre_of.items;
}
