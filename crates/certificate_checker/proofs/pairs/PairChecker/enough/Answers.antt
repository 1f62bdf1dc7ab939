use Rattle.std.proofs.Common.{refl, arith}
use Rattle.price_certificate.specs.declared.Condition.TheVariants.{SplitPrice}
use Rattle.certificate_checker.proofs.pairs.PairChecker.enough.Goals as goal

pub overflow_sub-held : goal.overflow_sub-held
overflow_sub-held c =
    omega (
      arith,
      c.self.invariant.reward,
      c.split_price.ensures,
      c.self.invariant.before.split_prices (SplitPrice c.args.split) refl,
    )
