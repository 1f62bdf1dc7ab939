use Rattle.std.proofs.Common.{ℕ, ◌<◌}
use Rattle.price_certificate.specs.declared.Condition.TheVariants.{SplitPrice}
use Rattle.price_certificate.specs.Certificate.{Holds}
use Rattle.certificate_checker.proofs.checker.Checker.check_split_prices.Given as goal

abbrev pub invariant-loop-i : goal.invariant-loop-i
invariant-loop-i l = (k : ℕ) → k < l.i → Holds l.self (SplitPrice k)
