use Rattle.std.proofs.Common.{◌∙◌, subst, sym}
use Rattle.std.specs.List.{Contains}
use Rattle.line_shapes.specs.declared.keyword.Keyword.TheVariants.{Start, Worker}
use Rattle.line_rules.specs.Known.{rows_of}
use Rattle.plan_text.specs.Names.{names_of}
use Rattle.plan_text.proofs.Parts.{start_inside}
use Rattle.plan_text.proofs.Words.{start_at}
use Rattle.plan_text.proofs.built.start_of.Goals as goal

pub worker-requires : goal.worker-requires
worker-requires c =
    let rows = c.args.rows.now in
    subst (Contains (names_of Worker rows)) (sym c.word.ensures)
    (start_at rows c.are_tidy.ensures c.in_ok-line.line
    (start_inside (rows_of Start rows) c.args.split.now c.in_ok-line.line
    (sym c.number.ensures ∙ c.in_ok-line.was)))
