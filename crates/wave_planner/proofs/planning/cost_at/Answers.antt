use Rattle.std.proofs.Common.{arith}
use Rattle.wave_planner.proofs.Costed.{unwrap_most}
use Rattle.wave_planner.proofs.planning.cost_at.Goals as goal

pub returns-clause-most : goal.returns-clause-most
returns-clause-most c =
    let most = unwrap_most c.cost.result 51539607552 c.cost.ensures.most in
    let is = c.unwrap_or.ensures in
    omega arith
