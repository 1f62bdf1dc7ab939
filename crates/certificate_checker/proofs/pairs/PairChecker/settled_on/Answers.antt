use Rattle.std.proofs.Common.{◌≡◌, ◌<◌, ◌-◌, ◌∙◌, length, ap, arith}
use Rattle.std.specs.List.{range_with_len}
use Rattle.wave_problem.specs.declared.TheConstants.{MAX_SPLITS}
use Rattle.certificate_checker.specs.Settled.{IsSettled}
use Rattle.certificate_checker.proofs.Rows.{rows-at, rows-long}
use Rattle.rayon.specs.Numbers.{nat_range}
use Rattle.rayon.proofs.ListFacts.{IfOk-then}
use Rattle.rayon.proofs.ToStd.{nat_range-All}
use Rattle.certificate_checker.proofs.pairs.PairChecker.settled_on.Goals as goal

-- each split meets what the closure requires
pub collect-requires-clause-ready : goal.collect-requires-clause-ready
collect-requires-clause-ready g c κs within =
    let claim = c.args.self.now in
    let ends = c.into_par_iter.ensures in
    let n = c.splits.result in
    let inside = nat_range-All (λ i. (i < length claim.wave.splits) × (i < MAX_SPLITS)) 0 n
    (λ i low high. (omega (arith, c.splits.ensures.count), omega (arith, c.splits.ensures.most))) in
    rw (c.with_min_len.ensures.base, c.map.ensures.base, c.map.ensures.f, ends.0, ends.1)
    (λ k d lt. (inside k d lt, λ y p. tt))

pub returns : goal.returns
returns g c =
    let claim = c.args.self.now in
    let ends = c.into_par_iter.ensures in
    let n = length claim.wave.splits in
    let whole : c.splits.result - 0 ≡ n = omega (arith, c.splits.ensures.count) in
    IfOk-then c.collect.result _ _ c.collect.ensures (λ v h.
    let base = rw (c.with_min_len.ensures.base, c.map.ensures.base) at h.1.1 in
    let mapped = rw c.with_min_len.ensures.base at h.1.2 in
    let rows = rw c.map.ensures.f at mapped in
    let places = base ∙ (λ i. nat_range (ends.0 i) (ends.1 i)) ∙ ap (range_with_len 0) whole in
    let told = rw places at rows in (
      ap length h.2 ∙ rows-long (IsSettled claim) 0 n h.0 told,
      λ s l. rw h.2 (rows-at (IsSettled claim) 0 n h.0 told s s (omega arith) l),
    ))
