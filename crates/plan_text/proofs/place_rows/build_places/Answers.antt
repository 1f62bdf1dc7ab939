use Rattle.std.proofs.Common.{List, ℕ, subst, sym, true≢false}
use Rattle.price_certificate.specs.Places.{ArePlacePrices}
use Rattle.plan_text.proofs.FitPlaces.{rows_fit}
use Rattle.plan_text.proofs.place_rows.build_places.Goals as goal

pub unreachable-requires : goal.unreachable-requires
unreachable-requires c =
    let fit = subst (λ (places : List (List ℕ)). ArePlacePrices places) (sym c.in_ok-list.ensures)
    (rows_fit c.args.rows.now c.are_tidy.ensures) in
    true≢false (sym (c.in-None.ensures.some.1 fit))
