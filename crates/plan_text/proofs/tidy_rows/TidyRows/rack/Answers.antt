use Rattle.std.proofs.Common.{arith}
use Rattle.line_shapes.specs.declared.keyword.Keyword.TheVariants.{Rack}
use Rattle.plan_text.proofs.Words.{few_names}
use Rattle.plan_text.proofs.tidy_rows.TidyRows.rack.Goals as goal

pub overflow_cast-declared : goal.overflow_cast-declared
overflow_cast-declared c =
    let tidy = c.are_tidy.ensures in
    omega (arith, c.declared.ensures.within, few_names c.args.self.now tidy Rack 4096 tidy.few_racks)
