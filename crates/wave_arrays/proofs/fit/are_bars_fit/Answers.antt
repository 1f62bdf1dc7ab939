use Rattle.std.proofs.Common.{length}
use Rattle.wave_arrays.specs.Rows.{IsPairKnown, pairs_in}
use Rattle.wave_arrays.proofs.Unfit.{none_unfit}
use Rattle.wave_arrays.proofs.fit.are_bars_fit.Goals as goal

pub returns : goal.returns
returns c =
    let rows = c.args.rows.now in
    none_unfit (IsPairKnown (length rows.splits.now) (length rows.workers.now)) (pairs_in rows.barred)
    c.unfit_pair.result c.is_none.result c.unfit_pair.ensures c.is_none.ensures
