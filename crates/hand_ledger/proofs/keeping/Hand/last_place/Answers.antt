use Rattle.std.proofs.Common.{◌≡◌, List, ap, refl}
use Rattle.hand_ledger.specs.Hands.{HandValue, Kept, last_place}
use Rattle.hand_ledger.proofs.Calls.{of_last, of_none}
use Rattle.hand_ledger.proofs.keeping.Hand.last_place.Goals as goal

pub returns-in-Some : goal.returns-in-Some
returns-in-Some g c =
    let h = c.self.inside in
    of_last (λ (calls : List Kept). c.in-Some.entry.place ≡ last_place calls) h.entries.items
    h.counts.items h.starts.items (ap (λ (v : HandValue). v.calls) c.self.view_is) refl
    c.in-Some.ensures.value (λ counts starts. refl) (λ call next calls is. is)

pub returns-in-None : goal.returns-in-None
returns-in-None g c =
    let h = c.self.inside in
    of_none (λ (calls : List Kept). 0 ≡ last_place calls) h.entries.items h.counts.items h.starts.items
    (ap (λ (v : HandValue). v.calls) c.self.view_is) (c.in-None.ensures.none refl) refl
