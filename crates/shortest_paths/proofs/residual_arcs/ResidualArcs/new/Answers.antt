use Rattle.shortest_paths.proofs.Sorting.{none_matched}
use Rattle.shortest_paths.proofs.residual_arcs.ResidualArcs.new.Goals as goal

pub returns-clause-matched : goal.returns-clause-matched
returns-clause-matched g c = none_matched _ _ c.size.result _ c.requires.no_flow c.in_ok-matched.ensures
