use Rattle.std.proofs.Common.{◌≡◌, ℕ, ◌<◌, get_or, length, true}
use Rattle.tree_flow.specs.declared.nodes.TreeNode.TheVariants.{Worker}
use Rattle.tree_flow.specs.Nodes.{is_under}
use Rattle.tree_planner.proofs.split_ends.Ends.have_under.Given as goal

abbrev pub invariant-loop-worker : goal.invariant-loop-worker
invariant-loop-worker l = (k : ℕ) → k < l.worker-index → get_or l.workers k 0 < length l.tree.rack_of
    → is_under l.tree (Worker (get_or l.workers k 0)) l.node ≡ true → ⊥
