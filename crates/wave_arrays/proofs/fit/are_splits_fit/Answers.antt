use Rattle.std.proofs.Common.{arith, length}
use Rattle.std.proofs.lemmas.Grind.{common_steps}
use Rattle.wave_arrays.specs.Rows.{IsSplitFit}
use Rattle.wave_arrays.proofs.Unfit.{none_unfit}
use Rattle.wave_arrays.proofs.fit.are_splits_fit.Goals as goal

pub returns-then-rows-most_splits : goal.returns-then-rows-most_splits
returns-then-rows-most_splits c =
    let rows = c.args.rows.now in
    let each = none_unfit (IsSplitFit (length rows.holders.now)) rows.splits.now c.unfit_split.result
    c.is_none.result c.unfit_split.ensures c.is_none.ensures in
    grind (arith, common_steps)
