use Rattle.std.proofs.Common.{ap, arith}
use Rattle.flow_network.specs.declared.arcs.FlowArc.{FlowArc}
use Rattle.rack_network.proofs.Sizes.{slots_few}
use Rattle.rack_network.proofs.arcs.down.Goals as goal

pub free-requires-clause-capacity : goal.free-requires-clause-capacity
free-requires-clause-capacity c =
    let few = slots_few c.args.problem.now c.args.level c.from-2.result c.requires.small in
    let sum = c.slots.ensures.sum in
    omega arith

pub returns-clause-capacity : goal.returns-clause-capacity
returns-clause-capacity c =
    let few = slots_few c.args.problem.now c.args.level c.from-2.result c.requires.small in
    let sum = c.slots.ensures.sum in
    let is = ap (λ (a : FlowArc). a.capacity) c.free.ensures in
    omega arith
