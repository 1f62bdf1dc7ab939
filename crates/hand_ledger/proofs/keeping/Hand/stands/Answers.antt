use Rattle.std.proofs.Common.{◌≡◌, ◌-◌, ◌<◌, Some, List, length, refl, ap, sym, ◌∙◌, arith}
use Rattle.std.specs.Prelude.{◌↔◌, IsTrue, slice_get, true}
use Rattle.hand_ledger.specs.declared.entries.Entry.{Entry}
use Rattle.hand_ledger.specs.Hands.{HandValue, Kept}
use Rattle.hand_ledger.specs.Settling.{LastStands, event_at}
use Rattle.hand_ledger.proofs.Calls.{entry_there, no_entries, of_last, of_none}
use Rattle.hand_ledger.proofs.keeping.Hand.stands.Goals as goal

pub returns-then-count-eq0 : goal.returns-then-count-eq0
returns-then-count-eq0 g c =
    let h = c.self.inside in
    let history = c.args.history.now.items in
    of_none (λ (calls : List Kept). (IsTrue true → LastStands history calls) × (LastStands history calls →
    IsTrue true)) h.entries.items h.counts.items h.starts.items (ap (λ (v : HandValue). v.calls) c.self.view_is)
    (no_entries h.entries.items (sym c.len-count.ensures ∙ c.if-count-eq0.true)) (λ t. tt, λ s. refl)

pub returns : goal.returns
returns g c =
    let h = c.self.inside in
    let history = c.args.history.now.items in
    let within : length h.entries.items - 1 < length h.entries.items =
    omega (arith, c.if-count-eq0.false, c.len-count.ensures) in
    let last = entry_there h.entries.items (length h.entries.items - 1) within in
    let e : Entry = last.0 in
    let both : LastStands history c.args.self.now.calls ↔ (event_at history e.place ≡ Some e.event) =
    of_last (λ (calls : List Kept). LastStands history calls ↔ (event_at history e.place ≡ Some e.event))
    h.entries.items h.counts.items h.starts.items (ap (λ (v : HandValue). v.calls) c.self.view_is) refl
    (sym last.1) (λ counts starts. (λ is. is, λ is. is)) (λ call next calls is. is) in
    let says = c.stands.ensures e
    (ap (λ n. slice_get h.entries.items (n - 1)) c.len-count.ensures ∙ last.1) in
    (λ t. both.1 (says.0 t), λ s. says.1 (both.0 s))
