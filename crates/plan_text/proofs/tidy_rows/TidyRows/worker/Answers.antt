use Rattle.std.proofs.Common.{arith}
use Rattle.line_shapes.specs.declared.keyword.Keyword.TheVariants.{Worker}
use Rattle.plan_text.proofs.Words.{few_names}
use Rattle.plan_text.proofs.tidy_rows.TidyRows.worker.Goals as goal

pub overflow_cast-declared : goal.overflow_cast-declared
overflow_cast-declared c =
    let tidy = c.are_tidy.ensures in
    omega (arith, c.declared.ensures.within, few_names c.args.self.now tidy Worker 32768 tidy.few_workers)
