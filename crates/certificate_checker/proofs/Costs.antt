-- No start costs more than the greatest distance and the most bytes make.
use Rattle.std.proofs.Common.{ℕ, ◌*◌, ◌<◌, ◌≤◌, length, unwrap_or, arith}
use Rattle.std.proofs.lemmas.Bool.{cases_lt, lt-ltb, le-ltb}
use Rattle.std.proofs.lemmas.List.Elements.{All-get_or}
use Rattle.std.proofs.Math.Nat.{mul-le-mul_left}
use Rattle.rack_tree.specs.Tree.{Tree, reach}
use Rattle.rack_tree.specs.declared.TheConstants.{MAX_DISTANCE}
use Rattle.wave_problem.specs.declared.TheConstants.{MAX_BYTES}
use Rattle.wave_problem.specs.Wave.{Split, Wave, cost, split_at, IsWithinLimits}
use Rattle.wave_problem.proofs.Bound.{cost-le}

reach-le : (tree : Tree) → reach tree ≤ MAX_DISTANCE
reach-le tree = grind (arith, cases_lt, lt-ltb, le-ltb)

pub cost-most : (wave : Wave) (s w : ℕ) → IsWithinLimits wave → s < length wave.splits →
    unwrap_or (cost wave s w) 0 ≤ MAX_DISTANCE * MAX_BYTES
cost-most wave s w within known =
    let small : (split_at wave s).bytes ≤ MAX_BYTES =
    All-get_or (λ (split : Split). split.bytes ≤ MAX_BYTES) wave.splits s _ known within.bytes in
    omega (
      arith,
      cost-le wave s w within.near,
      mul-le-mul_left (reach wave.tree) small,
      reach-le wave.tree,
    )
