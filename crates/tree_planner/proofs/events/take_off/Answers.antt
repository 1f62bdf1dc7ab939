use Rattle.tree_planner.proofs.Started.{off_standing}
use Rattle.tree_planner.proofs.events.take_off.Goals as goal

pub returns-clause-standing : goal.returns-clause-standing
returns-clause-standing c =
    let wave = c.args.problem.now in
    let old = c.args.tables.now in
    let new = c.place.new.tables in
    off_standing wave old new c.args.split c.args.end c.requires.standing c.requires.stands
    c.place.ensures.tables
    c.place.ensures.placed
