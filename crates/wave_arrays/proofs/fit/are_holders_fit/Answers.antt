use Rattle.wave_arrays.specs.Places.{HasFitHolders}
use Rattle.wave_arrays.proofs.Unfit.{none_unfit}
use Rattle.wave_arrays.proofs.fit.are_holders_fit.Goals as goal

pub returns : goal.returns
returns c =
    let rows = c.args.rows.now in
    let each = none_unfit (HasFitHolders rows) rows.splits.now c.unfit_holders.result c.is_none.result
    c.unfit_holders.ensures c.is_none.ensures in
    (λ none i d lt. (each.0 none i d lt).1, λ held. each.1 (λ i d lt. (c.requires.each i d lt, held i d lt)))
