-- The reward of a wave of few splits is small enough to be the cost of an arc.
use Rattle.std.proofs.Common.{ℕ, ◌*◌, ◌<◌, ◌≤◌, ◌^◌, length, sum_by, inl, inr, arith}
use Rattle.std.specs.Prelude.{nat_lt}
use Rattle.std.proofs.lemmas.Bool.{cases_Bool}
use Rattle.std.proofs.lemmas.List.Sums.{sum_by-le}
use Rattle.std.proofs.Math.Nat.{mul-le-mul_right}
use Rattle.rack_tree.specs.Tree.{Tree, reach}
use Rattle.wave_problem.specs.Wave.{Wave, Split, reward, IsWithinLimits}

reach-le : (tree : Tree) → reach tree ≤ 6
reach-le tree = elim (cases_Bool (nat_lt 1 tree.centres)) [
  | inl several ↦ rw several (omega arith)
  | inr one ↦ rw one (omega arith)
]

pub reward_few : (wave : Wave) → IsWithinLimits wave → length wave.splits ≤ 1024 → reward wave < 2 ^ 47
reward_few wave within few =
    let bytes : ℕ = sum_by (λ (split : Split). split.bytes) wave.splits in
    let each = sum_by-le (λ (split : Split). split.bytes) 8589934592 wave.splits within.bytes in
    let scaled : reach wave.tree * bytes ≤ 6 * bytes = mul-le-mul_right bytes (reach-le wave.tree) in
    omega arith
