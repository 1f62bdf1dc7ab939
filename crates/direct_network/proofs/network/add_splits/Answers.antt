use Rattle.std.proofs.Common.{ℕ, ◌≡◌, ◌+◌, ◌*◌, length, subst, arith}
use Rattle.network_prices.proofs.Reward.{reward_few}
use Rattle.direct_network.specs.Build.{IsBuilt}
use Rattle.direct_network.specs.Marks.{AreMarksTo}
use Rattle.direct_network.proofs.network.add_splits.Goals as goal

pub add_split-requires-clause-small : goal.add_split-requires-clause-small
add_split-requires-clause-small c =
    let small = reward_few c.args.problem.now c.limits.ensures.problem c.requires.few_splits in
    omega arith

pub add_split-requires-clause-built : goal.add_split-requires-clause-built
add_split-requires-clause-built c =
    let same : c.loop-i.i ≡ c.new-split.result = omega arith in
    subst (λ (s : ℕ). IsBuilt c.args.problem.now s 0 (257 * s) c.loop-i.network) same c.loop-i.invariant.0

pub loop-i-preserved : goal.loop-i-preserved
loop-i-preserved c =
    let wave = c.args.problem.now in
    let s : ℕ = c.new-split.result in
    let next : s + 1 ≡ c.loop-i.i + 1 = omega arith in
    let limit : 257 * s + 257 ≡ 257 * (s + 1) = omega arith in
    let built = subst (λ (k : ℕ). IsBuilt wave (s + 1) 0 k c.add_split.new.network) limit
    c.in_ok-add_split.ensures.built in (
      subst (λ (k : ℕ). IsBuilt wave k 0 (257 * k) c.add_split.new.network) next built,
      subst (λ (k : ℕ). AreMarksTo wave k c.mark_split.new.self) next c.mark_split.ensures.marks,
    )

pub returns : goal.returns
returns c =
    let end : c.loop-i.i ≡ length c.args.problem.now.splits = omega arith in
    subst (λ (s : ℕ). IsBuilt c.args.problem.now s 0 (257 * s) c.loop-i.network) end c.loop-i.invariant.0
