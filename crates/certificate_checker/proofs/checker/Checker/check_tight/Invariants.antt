use Rattle.std.proofs.Common.{ℕ, ◌<◌}
use Rattle.price_certificate.specs.declared.Condition.TheVariants.{Tight}
use Rattle.price_certificate.specs.Certificate.{Holds}
use Rattle.certificate_checker.proofs.checker.Checker.check_tight.Given as goal

abbrev pub invariant-loop-i : goal.invariant-loop-i
invariant-loop-i l = (k v : ℕ) → k < l.i → Holds l.self (Tight k v)
