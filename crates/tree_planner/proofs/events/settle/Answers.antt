use Rattle.tree_planner.proofs.Standing.{held, stands_held}
use Rattle.tree_planner.proofs.events.settle.Goals as goal

pub ship_rest-requires-clause-held : goal.ship_rest-requires-clause-held
ship_rest-requires-clause-held c =
    held c.args.problem.now c.args.tables.now c.requires.standing c.args.fixed.now c.requires.fixed

pub returns-clause-standing : goal.returns-clause-standing
returns-clause-standing c =
    stands_held c.args.problem.now c.args.tables.now c.requires.standing c.ship_rest.new.tables
    c.ship_rest.ensures.terms c.ship_rest.ensures.held
