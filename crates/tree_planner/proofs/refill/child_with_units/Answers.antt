use Rattle.std.proofs.Common.{subst, ap, arith, get_or, length, Contains}
use Rattle.std.proofs.lemmas.List.Elements.{Contains-get_or}
use Rattle.tree_flow.specs.declared.nodes.TreeNode.TheVariants.{Worker}
use Rattle.tree_planner.specs.View.{state_of}
use Rattle.tree_planner.proofs.Added.{has_node}
use Rattle.tree_planner.proofs.Holes.{child_there}
use Rattle.tree_planner.proofs.refill.child_with_units.Goals as goal

pub get-requires : goal.get-requires
get-requires c =
    let tree = c.args.problem.now.tree in
    let row = c.of-below-items.result.now in
    let v = get_or row c.loop-below.below-index (Worker 0) in
    has_node tree c.args.tables.now.flow v c.requires.standing.tables.flow
    ((c.requires.fixed.children.each c.args.node v).0
    (subst (λ xs. Contains xs v) c.of-below-items.ensures
    (Contains-get_or row c.loop-below.below-index (Worker 0) c.loop-below-test.true))).known

pub returns-then-get-gt0 : goal.returns-then-get-gt0
returns-then-get-gt0 c =
    let row = c.of-below-items.result.now in
    let v = get_or row c.loop-below.below-index (Worker 0) in
    let hangs = (c.requires.fixed.children.each c.args.node v).0
    (subst (λ xs. Contains xs v) c.of-below-items.ensures
    (Contains-get_or row c.loop-below.below-index (Worker 0) c.loop-below-test.true)) in
    record {
      known = hangs.known;
      above = hangs.above;
      hangs = hangs.below;
      some = (let is = c.get.ensures 0 in omega arith);
    }

pub unreachable-requires : goal.unreachable-requires
unreachable-requires c =
    let size = ap length c.of-below-items.ensures in
    child_there c.args.problem.now c.args.fixed.now.children (state_of c.args.tables.now) c.args.node
    c.requires.fixed.known c.requires.fixed.children c.requires.standing.kept.balanced c.requires.inner
    (λ k l. c.loop-below.invariant k (omega arith))
