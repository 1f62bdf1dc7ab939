use Rattle.std.proofs.Common.{◌∙◌, sym}
use Rattle.line_shapes.specs.declared.keyword.Keyword.TheVariants.{Price}
use Rattle.line_rules.specs.Known.{rows_of}
use Rattle.plan_text.proofs.Parts.{start_inside}
use Rattle.plan_text.proofs.Words.{price_at}
use Rattle.plan_text.proofs.built.price_of.Goals as goal

pub amount-requires-clause-amount : goal.amount-requires-clause-amount
amount-requires-clause-amount c =
    let rows = c.args.rows.now in
    price_at rows c.are_tidy.ensures c.in-Some.line
    (start_inside (rows_of Price rows) c.args.name.now c.in-Some.line (sym c.number.ensures ∙ c.in-Some.is))
