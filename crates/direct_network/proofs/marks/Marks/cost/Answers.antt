use Rattle.std.proofs.Common.{◌+◌, refl}
use Rattle.direct_network.proofs.Marking.{cost_shown}
use Rattle.direct_network.proofs.marks.Marks.cost.Goals as goal

pub returns-clause-cost : goal.returns-clause-cost
returns-clause-cost c =
    let told = cost_shown c.args.problem.now c.args.split (c.args.split + 1) c.args.worker c.args.self.now
    c.requires.held c.requires.shown in
    rw (told, c.from.ensures, c.steps.ensures.steps, c.bytes.ensures.size) refl
