use Rattle.std.proofs.Common.{◌*◌, ◌≤◌, arith}
use Rattle.std.proofs.Math.Nat.{mul-le-mul}
use Rattle.tree_planner.proofs.search.end_cost.Goals as goal

pub returns-clause-most : goal.returns-clause-most
returns-clause-most c =
    (let steps : 2 * c.from.result ≤ 510 = omega arith in
    let product = mul-le-mul c.bytes.ensures.most steps in
    omega arith)
