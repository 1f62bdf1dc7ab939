use Rattle.std.proofs.Common.{◌^◌, length, ap, subst, sym, arith}
use Rattle.tree_flow.specs.Nodes.{IsNode}
use Rattle.tree_planner.specs.Reaching.{node_in}
use Rattle.tree_planner.proofs.Added.{has_node, over_sized}
use Rattle.tree_planner.proofs.Changed.{AreChanged, next_changed, none_changed}
use Rattle.tree_planner.proofs.Higher.{all_higher, higher}
use Rattle.tree_planner.proofs.refill.lift.Goals as goal

pub loop-node-init : goal.loop-node-init
loop-node-init c = record {
  over = c.requires.over;
  higher = none_changed (higher c.args.search.now) c.args.depth.now (node_in c.args.search.now.reached.items);
}

pub get-requires-in-loop-node : goal.get-requires-in-loop-node
get-requires-in-loop-node c =
    let k = c.loop-node.node-index in
    let is = c.deref-node-items.ensures.value in
    let size = ap length is in
    has_node c.args.problem.now.tree c.loop-node.depth (node_in c.deref-node-items.result.now k)
    c.loop-node.invariant.over (subst (λ xs. IsNode c.args.problem.now.tree (node_in xs k)) (sym is)
    (c.requires.reached.row.known k (omega arith)))

pub set-requires : goal.set-requires
set-requires c =
    let k = c.loop-node.node-index in
    let is = c.deref-node-items.ensures.value in
    let size = ap length is in
    has_node c.args.problem.now.tree c.loop-node.depth (node_in c.deref-node-items.result.now k)
    c.loop-node.invariant.over (subst (λ xs. IsNode c.args.problem.now.tree (node_in xs k)) (sym is)
    (c.requires.reached.row.known k (omega arith)))

pub loop-node-preserved : goal.loop-node-preserved
loop-node-preserved c =
    let search = c.args.search.now in
    let row = search.reached.items in
    let now = c.loop-node.depth in
    let new = c.set.new.self in
    let i = c.loop-node.invariant in
    let k = c.loop-node.node-index in
    let is = c.deref-node-items.ensures.value in
    let size = ap length is in
    let here = c.set.ensures.here 0 in
    let depth = c.get-in-loop-node.ensures 0 in
    let far = c.get.ensures (2 ^ 60) in
    record {
      over = over_sized c.args.problem.now.tree now new i.over c.set.ensures.size;
      higher = next_changed (higher search) c.args.depth.now (node_in row) (length row) c.requires.reached.row.once now new
          k (node_in c.deref-node-items.result.now k) (ap (λ xs. node_in xs k) is) (omega arith) i.higher (omega arith)
          (c.set.ensures.others 0);
    }

pub returns : goal.returns
returns c =
    let search = c.args.search.now in
    let row = search.reached.items in
    let i = c.loop-node.invariant in
    let size = ap length c.deref-node-items.ensures.value in
    record {
      over = i.over;
      higher = all_higher c.args.problem.now.tree search c.args.depth.now c.loop-node.depth c.requires.reached.row
          c.requires.bound
          (subst (AreChanged (higher search) c.args.depth.now (node_in row) c.loop-node.depth) (omega arith) i.higher);
    }
