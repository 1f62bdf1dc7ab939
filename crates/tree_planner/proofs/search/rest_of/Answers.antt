use Rattle.std.proofs.Common.{arith}
use Rattle.tree_planner.proofs.Rested.{none_rest}
use Rattle.tree_planner.proofs.search.rest_of.Goals as goal

pub returns-then-get-eq0-clause-rest : goal.returns-then-get-eq0-clause-rest
returns-then-get-eq0-clause-rest c =
    none_rest c.args.ground.now c.requires.ground c.args.node
    (let is = c.get.ensures 0 in let none = c.if-get-eq0.true in omega arith)

pub own_rest-requires-clause-some : goal.own_rest-requires-clause-some
own_rest-requires-clause-some c = (let is = c.get.ensures 0 in let more = c.if-get-eq0.false in omega arith)
