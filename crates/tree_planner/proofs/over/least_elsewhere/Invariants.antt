use Rattle.std.proofs.Common.{ℕ, ◌<◌, ◌≤◌, ◌^◌, get_or}
use Rattle.tree_flow.specs.declared.nodes.End.{End}
use Rattle.tree_flow.specs.State.{reach_cost}
use Rattle.tree_planner.specs.Ends.{IsOf}
use Rattle.tree_planner.specs.Lows.{IsSpared}
use Rattle.tree_planner.specs.Searching.{state_at, wave_of, IsOutBy}
use Rattle.tree_planner.proofs.Grouped.{first}
use Rattle.tree_planner.proofs.over.least_elsewhere.Given as goal

abbrev pub invariant-loop-group : goal.invariant-loop-group
invariant-loop-group l = record {
  most : l.least ≤ 2 ^ 60;
  past : (k : ℕ) → k < l.group-index → (x : End)
      → IsOf (wave_of l.ground).tree (IsOutBy l.ground l.ends) (get_or l.ends.groups k first) x → (IsSpared l.spared x.node → ⊥)
      → l.least ≤ reach_cost (wave_of l.ground) (state_at l.ground) l.split x;
}
