use Rattle.std.proofs.Common.{◌≡◌, arith, subst, sym, List, ℕ, All}
use Rattle.std.proofs.lemmas.Grind.{common_steps}
use Rattle.price_certificate.specs.Places.{prices_of, IsFitRow}
use Rattle.price_certificate.proofs.Covered.{row_fit}
use Rattle.price_certificate.proofs.places.PlacePrices.row.Goals as goal

pub returns-in-Some-clause-fit : goal.returns-in-Some-clause-fit
returns-in-Some-clause-fit c =
    let is : c.deref-in-Some.result.now ≡ prices_of c.args.self.now c.args.worker = grind (arith, common_steps) in
    let each = subst (λ (z : List (List ℕ)). All IsFitRow z) c.self.view_is c.self.invariant.each in
    subst IsFitRow (sym is) (row_fit c.args.self.now c.args.worker each)
