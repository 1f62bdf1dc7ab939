use Rattle.std.proofs.Common.{arith}
use Rattle.std.proofs.lemmas.Grind.{common_steps}
use Rattle.std.proofs.lemmas.List.{length-map}
use Rattle.wave_arrays.specs.declared.array_rows.PairRow.{PairRow}
use Rattle.wave_arrays.proofs.array_rows.BarredRows.at.Goals as goal

pub narrow_at-requires : goal.narrow_at-requires
narrow_at-requires c = grind (arith, length-map)

pub returns-in-Narrow : goal.returns-in-Narrow
returns-in-Narrow c d =
    let none : PairRow = record { split = 0; worker = 0 } in
    let at = c.narrow_at.ensures none in
    grind (arith, common_steps, at)
