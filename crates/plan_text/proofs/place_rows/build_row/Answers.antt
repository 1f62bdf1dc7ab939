use Rattle.std.proofs.Common.{◌≡◌, ◌∙◌, sym}
use Rattle.line_shapes.specs.declared.keyword.Keyword.TheVariants.{Places}
use Rattle.line_rules.specs.Known.{rows_of}
use Rattle.plan_text.proofs.Parts.{start_inside}
use Rattle.plan_text.proofs.place_rows.build_row.Goals as goal

pub build_prices-requires : goal.build_prices-requires
build_prices-requires c =
    start_inside (rows_of Places c.args.rows.now) c.args.worker.now c.in-Some.row
    (sym c.number.ensures ∙ c.in-Some.is)
