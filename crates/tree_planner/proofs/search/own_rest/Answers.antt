use Rattle.std.proofs.Common.{◌≡◌, ◌-◌, ap, subst, sym, arith}
use Rattle.tree_flow.specs.declared.nodes.TreeNode.TheVariants.{Worker}
use Rattle.tree_flow.specs.Nodes.{IsNode}
use Rattle.tree_flow.specs.Table.{at_node}
use Rattle.tree_planner.specs.Searching.{state_at, wave_of, IsRest}
use Rattle.tree_planner.proofs.Rested.{price_deep, worker_rest}
use Rattle.tree_planner.proofs.search.own_rest.Goals as goal

pub overflow_sub-result : goal.overflow_sub-result
overflow_sub-result c =
    let g = c.args.ground.now in
    let w = c.in-Worker.worker in
    let at = c.in-Worker.is in
    let known = subst (λ v. IsNode (wave_of g).tree v) at c.requires.known in
    let lines = c.requires.ground.known.lines in
    let below = ap (λ v. at_node g.tables.now.below v) at in
    let some = c.requires.some in
    let deep = price_deep g c.requires.ground w (omega arith) (omega arith) in
    let price = c.next_price.ensures.price in
    let depth = c.get.ensures 0 in
    omega arith

pub returns-in-Worker-clause-rest : goal.returns-in-Worker-clause-rest
returns-in-Worker-clause-rest c =
    let g = c.args.ground.now in
    let w = c.in-Worker.worker in
    let at = c.in-Worker.is in
    let known = subst (λ v. IsNode (wave_of g).tree v) at c.requires.known in
    let lines = c.requires.ground.known.lines in
    let below = ap (λ v. at_node g.tables.now.below v) at in
    let some = c.requires.some in
    let rest = worker_rest g c.requires.ground w (omega arith) (omega arith) c.next_price.result
    c.next_price.ensures.price in
    let depth : c.get.result ≡ (state_at g).depth (Worker w) = c.get.ensures 0 in
    subst (λ d. IsRest g c.args.node (c.next_price.result - d)) (sym depth)
    (subst (λ v. IsRest g v (c.next_price.result - (state_at g).depth (Worker w))) (sym at) rest)
