use Rattle.std.proofs.Common.{◌<◌, arith, length, subst, sym}
use Rattle.std.specs.List.{Contains}
use Rattle.line_shapes.specs.declared.keyword.Keyword.TheVariants.{Barred, Split, Worker}
use Rattle.line_rules.specs.Known.{rows_of}
use Rattle.plan_text.specs.Names.{names_of}
use Rattle.plan_text.proofs.Words.{bar_at}
use Rattle.plan_text.proofs.built.barred_pairs.Goals as goal

pub split-split-requires : goal.split-split-requires
split-split-requires c =
    let rows = c.args.rows.now in
    let inside : c.loop-line.line < length (rows_of Barred rows) =
    omega (arith, c.loop-line-test.true, c.count-count.ensures.value) in
    subst (Contains (names_of Split rows)) (sym c.word.ensures)
    (bar_at rows c.count-count.ensures.tidy c.loop-line.line inside).split

pub worker-requires : goal.worker-requires
worker-requires c =
    let rows = c.args.rows.now in
    let inside : c.loop-line.line < length (rows_of Barred rows) =
    omega (arith, c.loop-line-test.true, c.count-count.ensures.value) in
    subst (Contains (names_of Worker rows)) (sym c.word-in-loop-line.ensures)
    (bar_at rows c.count-count.ensures.tidy c.loop-line.line inside).worker
