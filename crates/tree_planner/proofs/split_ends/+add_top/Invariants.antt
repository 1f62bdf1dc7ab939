use Rattle.std.proofs.Common.{◌↔◌, ◌⊎◌, ℕ, ◌<◌}
use Rattle.tree_flow.specs.declared.nodes.End.{End}
use Rattle.tree_planner.specs.Bars.{HasEndFor}
use Rattle.tree_planner.specs.Hanging.{hanging}
use Rattle.tree_planner.proofs.Descended.{IsPart}
use Rattle.tree_planner.proofs.Handed.{height}
use Rattle.tree_planner.proofs.split_ends.+add_top.Given as goal

abbrev pub decreases-add_top : goal.decreases-add_top
decreases-add_top l = height l.top.node

abbrev pub invariant-loop-node : goal.invariant-loop-node
invariant-loop-node l = (e : End) → HasEndFor l.problem l.split l.groups.items e
    ↔ (HasEndFor l.problem l.split l.initial.groups.items e ⊎ ((k : ℕ) × (k < l.node-index)
    × IsPart l.problem l.split l.top (hanging l.children l.top.node) e k))
