use Rattle.std.proofs.Common.{arith, subst}
use Rattle.rack_tree.specs.Tree.{Tree}
use Rattle.tree_planner.specs.Ends.{IsBarred, IsLeft}
use Rattle.tree_planner.specs.Searching.{IsOutBy}
use Rattle.tree_planner.proofs.Covered.{left_end}
use Rattle.tree_planner.proofs.search.start_node.Goals as goal

pub is_past-requires-clause-small : goal.is_past-requires-clause-small
is_past-requires-clause-small c =
    let small = c.requires.ground.small in
    let bound = c.requires.searching.bound in
    let limit = c.requires.searching.limit in
    omega arith

pub returns-then-is_past-clause-started : goal.returns-then-is_past-clause-started
returns-then-is_past-clause-started c = λ left.
    (let past = c.is_past.ensures c.if-is_past.true in
    let cost = c.cost_below-cost.ensures.cost in
    omega arith)

pub start_at-requires-clause-is_end : goal.start_at-requires-clause-is_end
start_at-requires-clause-is_end c =
    left_end c.args.ground.now c.args.search.now.split (IsOutBy c.args.ground.now c.args.ends.now) c.args.top c.args.end.level
    c.requires.group c.args.end.node (subst (λ (t : Tree). IsLeft t (IsBarred t c.args.ends.now.barred) c.args.top c.args.end.node)
    c.tree.ensures.tree (c.is_left.ensures.0 c.if-is_left.true))
