use Rattle.std.proofs.Common.{◌≡◌, take, drop, ap, subst, sym, ◌∙◌, rules}
use Rattle.std.specs.Bool.{Decides}
use Rattle.std.proofs.lemmas.Bool.{false≢true}
use Rattle.std.proofs.lemmas.Option.{same_Some}
use Rattle.std.proofs.lemmas.Slice.Eq.{slice_eq-Decides}
use Rattle.hand_ledger.specs.declared.entries.Entry.{Entry}
use Rattle.hand_ledger.specs.Hands.{counts_in}
use Rattle.hand_ledger.specs.Settling.{LogValue, counts_at, event_at, starts_at}
use Rattle.hand_ledger.proofs.Calls.{has_call}
use Rattle.hand_ledger.proofs.logs.Log.has.Goals as goal

pub returns-then-not-stands : goal.returns-then-not-stands
returns-then-not-stands c entry at =
    let log = c.args.self.now in
    let history-is = ap (λ (l : LogValue). event_at l.history entry.place) c.self.view_is in
    let own = has_call log entry (take (counts_in entry.event) (drop c.args.from c.args.counts.now.items))
    c.args.starts.now in (
      λ t. absurd cc,
      λ is. absurd (false≢true (sym c.if-not-stands.true
          ∙ (c.stands.ensures entry at).1 (history-is ∙ (own.0 is).0))),
    )

pub returns-then-not-has_counts : goal.returns-then-not-has_counts
returns-then-not-has_counts c entry at =
    let log = c.args.self.now in
    let counts = drop c.args.from c.args.counts.now.items in
    let same : c.at-entry.result ≡ entry = same_Some _ _ (sym c.at-entry.ensures ∙ at) in
    let own = has_call log entry (take (counts_in entry.event) counts) c.args.starts.now in (
      λ t. absurd cc,
      λ is. absurd (false≢true (sym c.if-not-has_counts.true ∙ c.has_counts.ensures.1
          (subst (λ (e : Entry). counts_at log e.event ≡ take (counts_in e.event) counts) (sym same)
          (own.0 is).1))),
    )

pub returns : goal.returns
returns c entry at =
    let log = c.args.self.now in
    let counts = drop c.args.from c.args.counts.now.items in
    let same : c.at-entry.result ≡ entry = same_Some _ _ (sym c.at-entry.ensures ∙ at) in
    let own = has_call log entry (take (counts_in entry.event) counts) c.args.starts.now in
    let history-is = ap (λ (l : LogValue). event_at l.history entry.place) c.self.view_is in
    let stands = (c.stands.ensures entry at).0 c.if-not-stands.false in
    let counts-are =
    subst (λ (e : Entry). counts_at log e.event ≡ take (counts_in e.event) counts) same
    (c.has_counts.ensures.0 c.if-not-has_counts.false) in
    let told : c.starts_at.result.now ≡ starts_at log entry.event =
    c.starts_at.ensures ∙ ap (λ (e : Entry). starts_at log e.event) same in
    let starts-are : Decides c.eq.result (c.starts_at.result.now ≡ c.args.starts.now) =
    slice_eq-Decides (λ a b. search rules) _ _ _ c.eq.ensures in (
      λ t. own.1 (sym history-is ∙ stands, counts-are, sym told ∙ starts-are.0 t),
      λ is. starts-are.1 (told ∙ (own.0 is).2),
    )
