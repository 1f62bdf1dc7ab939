use Rattle.std.proofs.Common.{ap}
use Rattle.flow_network.specs.Flow.{Flow}
use Rattle.augmenting_paths.proofs.Shipped.{unit_path, unit_distinct, unit_listed, unit_shipped}
use Rattle.augmenting_paths.proofs.augment.push.Goals as goal

pub push-requires-clause-distinct : goal.push-requires-clause-distinct
push-requires-clause-distinct g c =
    rw c.deref.ensures.value
    (unit_distinct c.requires.next.can c.requires.next.left c.requires.found)

pub push-requires-clause-path : goal.push-requires-clause-path
push-requires-clause-path g c =
    rw c.deref.ensures.value
    (unit_path c.requires.next.can c.requires.next.left c.requires.found).1

pub follow-requires-clause-path : goal.follow-requires-clause-path
follow-requires-clause-path g c =
    rw (ap (λ (f : Flow g.row.L.Denot). f.arcs) c.push.ensures.pushed, c.deref-2.ensures.value)
    (unit_listed c.requires.next.can c.requires.next.left c.requires.found)

pub returns-clause-state : goal.returns-clause-state
returns-clause-state g c =
    rw (c.push.ensures.pushed, c.deref.ensures.value)
    (unit_shipped c.requires.next.can c.requires.next.left c.requires.found)
