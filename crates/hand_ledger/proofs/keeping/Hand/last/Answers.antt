use Rattle.std.proofs.Common.{◌≡◌, Some, List, ap, refl, rules}
use Rattle.hand_ledger.specs.Hands.{HandValue, Kept, last_event}
use Rattle.hand_ledger.proofs.Calls.{of_last, of_none}
use Rattle.hand_ledger.proofs.keeping.Hand.last.Goals as goal

pub returns : goal.returns
returns g c =
    let h = c.self.inside in
    of_last (λ (calls : List Kept). Some c.in_ok-entry.entry.event ≡ last_event calls) h.entries.items
    h.counts.items h.starts.items (ap (λ (v : HandValue). v.calls) c.self.view_is) refl
    c.in_ok-entry.ensures.value (λ counts starts. refl) (λ call next calls is. is)

pub returns-in_err-entry : goal.returns-in_err-entry
returns-in_err-entry g c =
    let h = c.self.inside in
    of_none (λ (calls : List Kept). c.from_residual.result ≡ last_event calls) h.entries.items h.counts.items
    h.starts.items (ap (λ (v : HandValue). v.calls) c.self.view_is) (c.last.ensures.none c.in_err-entry.was)
    (search rules)
