use Rattle.std.proofs.Common.{◌<◌, arith, length}
use Rattle.line_shapes.specs.declared.keyword.Keyword.TheVariants.{Split}
use Rattle.line_rules.specs.Known.{rows_of}
use Rattle.plan_text.proofs.Words.{split_at}
use Rattle.plan_text.proofs.built.lent_splits.Goals as goal

pub amount-requires-clause-amount : goal.amount-requires-clause-amount
amount-requires-clause-amount c =
    let rows = c.args.rows.now in
    let inside : c.loop-split.split < length (rows_of Split rows) =
    omega (arith, c.loop-split-test.true, c.count-count.ensures.value) in
    let bytes = (split_at rows c.count-count.ensures.tidy c.loop-split.split inside).bytes in
    record { number = bytes.number; most = omega (arith, bytes.most) }
