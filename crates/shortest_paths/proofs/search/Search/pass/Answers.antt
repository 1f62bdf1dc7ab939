use Rattle.shortest_paths.proofs.search.Search.pass.Goals as goal

pub visit-requires-clause-state : goal.visit-requires-clause-state
visit-requires-clause-state g c = (
  c.requires.state.0,
  rw c.in-Some.is at (c.in_ok-to.ensures.goes c.requires.state.0 c.requires.state.1),
)

pub returns-in-None-clause-goes : goal.returns-in-None-clause-goes
returns-in-None-clause-goes g c = λ rest s. rw c.in-None.is at (c.in_ok-to.ensures.goes rest s)

pub returns-in_ok-found-in-Some-clause-goes : goal.returns-in_ok-found-in-Some-clause-goes
returns-in_ok-found-in-Some-clause-goes g c = λ rest s.
    c.in_ok-found-in-Some.ensures.goes rest (rw c.in-Some.is at (c.in_ok-to.ensures.goes rest s))
