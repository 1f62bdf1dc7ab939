use Rattle.std.proofs.Common.{ℕ, arith, get_or, sym, subst}
use borrow.Author.Count.{below_more}
use Rattle.tree_flow.specs.declared.nodes.TreeNode.TheVariants.{Worker}
use Rattle.tree_planner.specs.declared.split_ends.Group.TheVariants.{Below}
use Rattle.tree_planner.specs.Ends.{IsLeft}
use Rattle.tree_planner.specs.Searching.{wave_of, AreOf, IsOutBy, IsStartedAt}
use Rattle.tree_planner.proofs.Covered.{least_kept}
use Rattle.tree_planner.proofs.Grouped.{all_left, of_below}
use Rattle.tree_planner.proofs.Improved.{improves_trans, start_kept}
use Rattle.tree_planner.proofs.search.start_all.Goals as goal

pub start_node-requires-clause-split : goal.start_node-requires-clause-split
start_node-requires-clause-split c =
    let same = c.loop-node.invariant.improves.nearer.split in
    let known = c.requires.split in
    omega arith

pub start_node-requires-clause-group : goal.start_node-requires-clause-group
start_node-requires-clause-group c =
    subst (λ s. AreOf c.args.ground.now s (IsOutBy c.args.ground.now c.args.ends.now) (Below c.args.top c.args.level))
    (sym c.loop-node.invariant.improves.nearer.split) c.requires.group

pub start_node-requires-clause-least : goal.start_node-requires-clause-least
start_node-requires-clause-least c =
    least_kept c.args.ground.now c.args.search.now c.loop-node.search c.loop-node.invariant.improves c.requires.least

pub loop-node-preserved : goal.loop-node-preserved
loop-node-preserved c =
    let g = c.args.ground.now in
    let nodes = c.nodes_below-nodes.result.now in
    let old = c.loop-node.search in
    let new = c.start_node.new.search in
    let i = c.start_node.ensures.improves in
    record {
      searching = c.start_node.ensures.searching;
      improves = improves_trans c.args.search.now old new c.loop-node.invariant.improves i;
      started = below_more (λ (k : ℕ). IsLeft (wave_of g).tree (IsOutBy c.args.ground.now c.args.ends.now) c.args.top
          (get_or nodes k (Worker 0))
          → IsStartedAt g new (record { node = get_or nodes k (Worker 0); level = c.args.level })) c.loop-node.node-index
          (λ k l left. start_kept old new i.nearer g (record { node = get_or nodes k (Worker 0); level = c.args.level })
          (c.loop-node.invariant.started k l left)) c.start_node.ensures.started;
    }

pub returns-clause-started : goal.returns-clause-started
returns-clause-started c =
    let g = c.args.ground.now in
    let tree = (wave_of g).tree in
    let Out = IsOutBy c.args.ground.now c.args.ends.now in
    of_below tree Out c.args.top c.args.level (λ x. IsStartedAt g c.loop-node.search x)
    (all_left tree Out c.args.top c.nodes_below-nodes.result.now c.nodes_below-nodes.ensures.all
    (λ v. IsStartedAt g c.loop-node.search (record { node = v; level = c.args.level }))
    (λ k l. c.loop-node.invariant.started k (omega arith)))
