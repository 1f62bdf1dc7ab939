use Rattle.std.proofs.Common.{ℕ, ◌<◌, ◌↔◌, get_or}
use Rattle.tree_flow.specs.declared.nodes.End.{End}
use Rattle.tree_planner.specs.Bars.{HasEndFor, IsLevelEnd}
use Rattle.tree_planner.proofs.split_ends.groups_with.Given as goal

abbrev pub invariant-loop-k : goal.invariant-loop-k
invariant-loop-k l = (e : End) → HasEndFor l.problem l.split l.groups.items e
    ↔ ((k : ℕ) × (k < l.k) × IsLevelEnd l.problem l.split (get_or l.holders k 0) e)
