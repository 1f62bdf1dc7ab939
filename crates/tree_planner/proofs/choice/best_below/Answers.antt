use Rattle.std.proofs.Common.{ℕ, ◌≤◌, arith, get_or}
use borrow.Author.Count.{below_more}
use Rattle.tree_flow.specs.declared.nodes.TreeNode.TheVariants.{Worker}
use Rattle.tree_flow.specs.State.{reach_cost}
use Rattle.tree_planner.specs.Ends.{IsLeft}
use Rattle.tree_planner.specs.Searching.{state_at, wave_of, IsOutBy}
use Rattle.tree_planner.proofs.Grouped.{all_left, of_below}
use Rattle.tree_planner.proofs.choice.best_below.Goals as goal

pub loop-node-preserved : goal.loop-node-preserved
loop-node-preserved c =
    let g = c.args.ground.now in
    let nodes = c.nodes_below-nodes.result.now in
    let less = c.better_node-best.ensures.before in
    record {
      cheapest = c.better_node-best.ensures.cheapest;
      before = (let before = c.loop-node.invariant.before in omega arith);
      better = below_more (λ (k : ℕ). IsLeft (wave_of g).tree (IsOutBy c.args.ground.now c.args.ends.now) c.args.top
          (get_or nodes k (Worker 0)) → c.better_node-best.result.least
          ≤ reach_cost (wave_of g) (state_at g) c.args.split
          (record { node = get_or nodes k (Worker 0); level = c.args.level })) c.loop-node.node-index
          (λ k l left. (let before = c.loop-node.invariant.better k l left in omega arith))
          c.better_node-best.ensures.better;
    }

pub returns-clause-better : goal.returns-clause-better
returns-clause-better c =
    let g = c.args.ground.now in
    let tree = (wave_of g).tree in
    let Out = IsOutBy c.args.ground.now c.args.ends.now in
    of_below tree Out c.args.top c.args.level
    (λ x. c.loop-node.best.least ≤ reach_cost (wave_of g) (state_at g) c.args.split x)
    (all_left tree Out c.args.top c.nodes_below-nodes.result.now c.nodes_below-nodes.ensures.all
    (λ v. c.loop-node.best.least ≤ reach_cost (wave_of g) (state_at g) c.args.split
    (record { node = v; level = c.args.level }))
    (λ k l. c.loop-node.invariant.better k (omega arith)))
