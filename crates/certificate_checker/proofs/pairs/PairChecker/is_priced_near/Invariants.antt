use Rattle.std.proofs.Common.{◌<◌, ℕ, get_or}
use Rattle.wave_problem.specs.Wave.{split_at}
use Rattle.certificate_checker.specs.Settled.{IsPricedNear}
use Rattle.certificate_checker.proofs.pairs.PairChecker.is_priced_near.Given as goal

abbrev pub invariant-loop-i : goal.invariant-loop-i
invariant-loop-i l = (k d : ℕ) → k < l.i →
    IsPricedNear l.self l.fn.split (get_or (split_at l.self.wave l.fn.split).holders k d)
