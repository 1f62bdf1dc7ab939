use Rattle.rack_network.proofs.Exists.{certified_is_over_racks}
use Rattle.wave_planner.proofs.planning.plan_by_racks.Goals as goal

pub returns-clause-over : goal.returns-clause-over
returns-clause-over c =
    let made = c.in_ok-plan.ensures in
    certified_is_over_racks c.args.problem.now c.in_ok-plan.plan.starts c.in_ok-plan.plan.workers
    c.in_ok-plan.prices c.know_tree.ensures made.sizes made.certifies made.idle
