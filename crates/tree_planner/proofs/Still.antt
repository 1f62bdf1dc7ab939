-- Tables that are held on.
use Rattle.std.proofs.Common.{◌≡◌, ◌≤◌, ap, arith}
use Rattle.wave_problem.specs.Wave.{Wave}
use Rattle.tree_flow.specs.declared.nodes.TreeNode.{TreeNode}
use Rattle.tree_flow.specs.State.{Terms, IsKept}
use Rattle.tree_flow.specs.Table.{at_node}
use Rattle.tree_planner.specs.declared.tables.Tables.{Tables}
use Rattle.tree_planner.specs.Engine.{IsHeld}
use Rattle.tree_planner.specs.View.{state_of, AreTables}

-- where the terms stay, and no node lies deeper than a start is worth
pub held_on : (wave : Wave) (old new : Tables) → IsHeld wave old → (state_of new).terms ≡ (state_of old).terms
    → AreTables wave new → ((v : TreeNode) → at_node new.depth v ≤ old.worth) → IsKept wave (state_of new)
    → IsHeld wave new
held_on wave old new held terms tables low kept =
    let worth = ap (λ (t : Terms). t.worth) terms in
    record {
      tables = tables;
      small = (let small = held.small in omega arith);
      low = λ v. (let low = low v in omega arith);
      kept = kept;
    }
