use Rattle.std.proofs.Common.{ap, ◌∙◌, sym}
use Rattle.flow_network.specs.Flow.{Flow}
use Rattle.augmenting_paths.proofs.TightPath.{sink_arc_on}
use Rattle.augmenting_paths.proofs.DepthFirst.{own_of, inner_of, matched_of}
use Rattle.augmenting_paths.proofs.trail.Trail.next.Goals as goal

pub next_of-requires-clause-inner : goal.next_of-requires-clause-inner
next_of-requires-clause-inner g c =
    rw (c.leaving.ensures, ap (λ (f : Flow g.row.L.Denot). f.arcs) c.new-meter.ensures.network) (own_of _ _)

pub is_open-requires-clause-listed : goal.is_open-requires-clause-listed
is_open-requires-clause-listed g c =
    (sink_arc_on c.requires.may.lists (sym c.sink_arc.ensures ∙ c.in-Some.is)).0

pub returns-clause-goes_on : goal.returns-clause-goes_on
returns-clause-goes_on g c = record {
  open_arc = c.is_open.ensures c.if-is_open.true;
  from = (sink_arc_on c.requires.may.lists (sym c.sink_arc.ensures ∙ c.in-Some.is)).1;
}

pub next_of-requires-2-clause-inner : goal.next_of-requires-2-clause-inner
next_of-requires-2-clause-inner g c = rw c.inner.ensures (inner_of _ c.requires.may.lists)

pub next_of-requires-2-clause-matched : goal.next_of-requires-2-clause-matched
next_of-requires-2-clause-matched g c = rw c.matched.ensures
    (matched_of _ c.requires.may.lists)
