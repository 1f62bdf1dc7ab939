use Rattle.std.proofs.Common.{[], arith}
use Rattle.shortest_paths.proofs.Searching.{entered_inside}
use Rattle.shortest_paths.proofs.search.Search.enter.Goals as goal

pub is_source-requires : goal.is_source-requires
is_source-requires g c =
    let inside = entered_inside c.requires.state.now in
    let size = c.requires.state.may.sized.sources in
    omega arith

pub returns-clause-goes : goal.returns-clause-goes
returns-clause-goes g c = c.in_ok-found.ensures.goes [] c.requires.state
