use Rattle.std.proofs.Common.{ℕ, List, Option, ap, refl, subst, ◌∙◌}
use Rattle.hand_ledger.specs.Hands.{HandValue}
use Rattle.hand_ledger.specs.Settling.{IsLowestTorn}
use Rattle.shared_master.specs.Held.{is_short, log_of}
use Rattle.shared_master.proofs.closed.settle.Goals as goal

pub returns-in-None : goal.returns-in-None
returns-in-None g c =
    let job = c.args.closed.job in
    let lowest = subst (λ (hands : List HandValue). IsLowestTorn (log_of job)
    (is_short job) hands c.torn_place-torn.result)
    c.deref.ensures.value c.torn_place-torn.ensures in (
      c.into_master.ensures ∙ ap (λ held. held.job) c.closed.view_is,
      subst (λ (r : Option ℕ). IsLowestTorn (log_of job) (is_short job) c.args.hands.items r) c.in-None.is
          lowest,
    )

pub returns-in-Some : goal.returns-in-Some
returns-in-Some g c =
    let job = c.args.closed.job in
    let lowest = subst (λ (hands : List HandValue). IsLowestTorn (log_of job)
    (is_short job) hands c.torn_place-torn.result)
    c.deref.ensures.value c.torn_place-torn.ensures in
    let torn = subst (λ (r : Option ℕ). IsLowestTorn (log_of job) (is_short job) c.args.hands.items r)
    c.in-Some.is lowest in
    (refl, refl, torn.0, torn.1)
