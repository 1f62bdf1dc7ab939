use Rattle.std.proofs.Common.{ℕ, arith, get_or}
use borrow.Author.Count.{below_more}
use Rattle.tree_flow.specs.declared.nodes.TreeNode.TheVariants.{Worker}
use Rattle.tree_planner.specs.Ends.{IsLeft}
use Rattle.tree_planner.specs.Searching.{wave_of, IsOutBy, IsOverTo}
use Rattle.tree_planner.proofs.Covered.{leaving_kept, to_kept}
use Rattle.tree_planner.proofs.Grouped.{all_left, of_below}
use Rattle.tree_planner.proofs.Improved.{improves_trans}
use Rattle.tree_planner.proofs.over.over_all.Goals as goal

pub loop-node-preserved : goal.loop-node-preserved
loop-node-preserved c =
    let g = c.args.ground.now in
    let nodes = c.nodes_below-nodes.result.now in
    let old = c.loop-node.search in
    let new = c.over_node.new.search in
    let i = c.over_node.ensures.improves in
    let leaving = c.loop-node.invariant.leaving in
    record {
      searching = c.over_node.ensures.searching;
      improves = improves_trans c.args.search.now old new c.loop-node.invariant.improves i;
      leaving = leaving_kept g old new i c.args.leaving leaving;
      over = below_more (λ (k : ℕ). IsLeft (wave_of g).tree (IsOutBy c.args.ground.now c.args.ends.now) c.args.top
          (get_or nodes k (Worker 0)) → IsOverTo g new c.args.leaving.end c.args.leaving.split
          (record { node = get_or nodes k (Worker 0); level = c.args.level })) c.loop-node.node-index
          (λ k l left. to_kept g old new i c.args.leaving leaving
          (record { node = get_or nodes k (Worker 0); level = c.args.level }) (c.loop-node.invariant.over k l left))
          c.over_node.ensures.over;
    }

pub returns-clause-over : goal.returns-clause-over
returns-clause-over c =
    let g = c.args.ground.now in
    let tree = (wave_of g).tree in
    let Out = IsOutBy c.args.ground.now c.args.ends.now in
    of_below tree Out c.args.top c.args.level
    (λ x. IsOverTo g c.loop-node.search c.args.leaving.end c.args.leaving.split x)
    (all_left tree Out c.args.top c.nodes_below-nodes.result.now c.nodes_below-nodes.ensures.all
    (λ v. IsOverTo g c.loop-node.search c.args.leaving.end c.args.leaving.split
    (record { node = v; level = c.args.level }))
    (λ k l. c.loop-node.invariant.over k (omega arith)))
