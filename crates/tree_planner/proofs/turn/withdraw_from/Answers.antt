use Rattle.tree_planner.proofs.turn.withdraw_from.Goals as goal

pub fill-requires-clause-known : goal.fill-requires-clause-known
fill-requires-clause-known c = (c.requires.standing.kept.cheapest.ends c.args.split c.args.end c.requires.stands).known
