use Rattle.std.proofs.Common.{◌≡◌, ℕ, List, [], ap, subst, sym}
use Rattle.wave_problem.specs.Assignment.{pairs_of}
use Rattle.price_certificate.specs.Certificate.{Claim}
use Rattle.price_certificate.specs.Places.{places_taken}
use Rattle.price_certificate.proofs.Covered.{charge-plain}
use Rattle.certificate_checker.proofs.checker.Checker.places_taken.Goals as goal

pub returns-in-None : goal.returns-in-None
returns-in-None c =
    let wave = c.args.self.now.wave in
    let pairs = pairs_of c.args.self.now.starts in
    let free : [] ≡ c.args.self.now.places =
    rw c.in-None.is at (ap (λ (z : Claim). z.places) c.self.view_is) in
    subst (λ (places : List (List ℕ)). 0 ≡ places_taken places wave pairs) free
    (sym (charge-plain wave pairs))
