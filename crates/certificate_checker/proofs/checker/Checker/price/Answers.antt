use Rattle.std.proofs.Common.{refl, arith}
use Rattle.price_certificate.specs.declared.Condition.TheVariants.{SplitPrice, WorkerPrice}
use Rattle.certificate_checker.proofs.checker.Checker.price.Goals as goal

pub overflow_add-result : goal.overflow_add-result
overflow_add-result c =
    grind (
      arith,
      c.requires.before.split_prices (SplitPrice c.args.split) refl,
      c.requires.before.worker_prices
          (WorkerPrice c.args.worker) refl,
    )

pub returns-clause-most : goal.returns-clause-most
returns-clause-most c =
    grind (
      arith,
      c.requires.before.split_prices (SplitPrice c.args.split) refl,
      c.requires.before.worker_prices
          (WorkerPrice c.args.worker) refl,
    )
