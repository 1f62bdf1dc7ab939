use Rattle.std.proofs.Common.{rules}
use Rattle.std.proofs.lemmas.List.Sorted.{non_decreasing_from_is_sorted}
use Rattle.price_certificate.proofs.Covered.{fit_row-sorted}
use Rattle.wave_arrays.proofs.place_rows.is_rising.Goals as goal

pub returns-then-all : goal.returns-then-all
returns-then-all c =
    fit_row-sorted c.args.prices.now c.is_sorted.result (search rules)
    (non_decreasing_from_is_sorted c.args.prices.now c.is_sorted.result c.is_sorted.ensures.cases)
