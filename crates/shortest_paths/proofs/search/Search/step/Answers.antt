use Rattle.std.proofs.Common.{[]}
use Rattle.shortest_paths.proofs.search.Search.step.Goals as goal

pub enter-requires : goal.enter-requires
enter-requires g c = record { state = rw c.in-Some.is at (c.in_ok-to.ensures.goes [] c.requires.state) }

pub returns-in-None-clause-goes : goal.returns-in-None-clause-goes
returns-in-None-clause-goes g c = rw c.in-None.is at (c.in_ok-to.ensures.goes [] c.requires.state)
