use Rattle.std.proofs.Common.{Vec, Global, ℕ, arith}
use Rattle.std.proofs.lemmas.List.{length-map}
use Rattle.price_certificate.proofs.Covered.{fit_rows}
use Rattle.price_certificate.proofs.places.are_place_prices.Goals as goal

pub returns-then-rows-le-MAX_WORKERS : goal.returns-then-rows-le-MAX_WORKERS
returns-then-rows-le-MAX_WORKERS c =
    let rows = c.args.rows.now in
    let fit = fit_rows rows in (
      λ yes. record {
        few = omega (arith, length-map rows (λ (row : Vec ℕ Global). row.items));
        each = fit.0 (c.are_fit.ensures.0 yes);
      },
      λ are. c.are_fit.ensures.1 (fit.1 are.each),
    )
