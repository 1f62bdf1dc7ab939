use Rattle.std.proofs.Common.{arith}
use Rattle.std.proofs.lemmas.List.Sums.{fold_more}
use Rattle.node_ids.proofs.Updating.{length-updated}
use Rattle.node_ids.specs.Sets.{no_pairs, with_pair}
use Rattle.wave_arrays.specs.declared.array_rows.WidePairRow.{WidePairRow}
use Rattle.wave_arrays.specs.Rows.{pairs_in}
use Rattle.wave_arrays.proofs.build.build_barred.Goals as goal

pub loop-place-preserved : goal.loop-place-preserved
loop-place-preserved c =
    let pairs = pairs_in c.args.pairs.now in
    let none : WidePairRow = record { split = 0; worker = 0 } in
    let next = fold_more (λ set pair. with_pair set pair.split pair.worker) (no_pairs c.args.splits) pairs
    c.loop-place.place none in
    let pair = c.at.ensures none in
    grind (arith, next, pair, length-updated)
