use Rattle.std.proofs.Common.{ℕ, ◌<◌}
use Rattle.price_certificate.specs.declared.Condition.TheVariants.{Priced}
use Rattle.price_certificate.specs.Certificate.{Holds}
use Rattle.certificate_checker.proofs.checker.Checker.first_underpriced.Given as goal

abbrev pub invariant-loop-i : goal.invariant-loop-i
invariant-loop-i l = (v : ℕ) → v < l.i → Holds l.self (Priced l.fn.split v)
