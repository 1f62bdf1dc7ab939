use Rattle.std.proofs.Common.{ℕ, ◌<◌, ◌↔◌, ◌⊎◌}
use Rattle.tree_flow.specs.declared.nodes.End.{End}
use Rattle.tree_planner.specs.Bars.{HasEndFor, IsTopEnd}
use Rattle.tree_flow.specs.Nodes.{node_above}
use Rattle.tree_planner.proofs.split_ends.add_holder.Given as goal

abbrev pub invariant-loop-level : goal.invariant-loop-level
invariant-loop-level l = (e : End) → HasEndFor l.problem l.split l.groups.items e
    ↔ (HasEndFor l.problem l.split l.initial.groups.items e ⊎ ((level : ℕ) × (level < l.level)
    × IsTopEnd l.problem l.split (record { node = node_above l.problem.tree level l.holder; level = level }) e))
