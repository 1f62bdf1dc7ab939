use Rattle.live_master.proofs.serving.Session.perform.Goals as goal

pub perform-requires-clause-given : goal.perform-requires-clause-given
perform-requires-clause-given c = c.requires.ready.given
