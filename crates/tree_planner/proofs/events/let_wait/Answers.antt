use Rattle.tree_planner.proofs.Started.{waiting_standing}
use Rattle.tree_planner.proofs.events.let_wait.Goals as goal

pub returns-clause-standing : goal.returns-clause-standing
returns-clause-standing c =
    let wave = c.args.problem.now in
    let old = c.args.tables.now in
    let new = c.place.new.tables in
    waiting_standing wave old new c.args.split c.requires.standing c.requires.unshipped c.requires.none
    c.place.ensures.tables
    c.place.ensures.placed
