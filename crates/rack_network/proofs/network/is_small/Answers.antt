use Rattle.std.proofs.Common.{arith}
use Rattle.std.proofs.lemmas.Grind.{common_steps}
use Rattle.network_prices.proofs.Reward.{reward_few}
use Rattle.rack_network.proofs.network.is_small.Goals as goal

pub returns : goal.returns
returns c =
    let small = reward_few c.args.problem.now c.limits.ensures.problem in
    grind (arith, common_steps, small)
