use Rattle.std.proofs.Common.{refl}
use Rattle.shortest_paths.specs.Search.{problem}
use Rattle.shortest_paths.proofs.SearchEnds.{rest_listed, begins}
use Rattle.shortest_paths.proofs.search.Search.run.Goals as goal

pub settle-requires : goal.settle-requires
settle-requires g c =
    let listed = c.in_ok-reach.ensures.listed (rest_listed _ _ c.requires.rest) in
    let begun = begins (problem c.args.meter.now.network c.args.query.now) _ _ _ c.requires.rest _ _
    c.requires.may.start_in c.requires.count refl listed in
    record { state = record { may = c.requires.may; now = rw c.in_ok-reach.ensures.tables begun } }

pub returns-clause-ends : goal.returns-clause-ends
returns-clause-ends g c =
    rw (c.empty_queue.ensures.network, c.settle.ensures.network) at c.empty_queue.ensures.ends
