use Rattle.std.proofs.Common.{◌<◌, arith}
use Rattle.std.proofs.lemmas.Grind.{common_steps}
use Rattle.wave_arrays.proofs.Unfit.{none_unfit}
use Rattle.wave_arrays.proofs.fit.are_racks_fit.Goals as goal

pub returns-then-rows-le-MAX_RACKS : goal.returns-then-rows-le-MAX_RACKS
returns-then-rows-le-MAX_RACKS c =
    let rows = c.args.rows.now in
    let each = none_unfit (λ centre. centre < rows.centres) rows.centre_of.now c.unfit_rack.result
    c.is_none.result c.unfit_rack.ensures c.is_none.ensures in
    grind (arith, common_steps)
