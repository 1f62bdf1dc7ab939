use Rattle.std.proofs.Common.{arith, ap, rules, length, sym, true≢false, ◌∙◌}
use Rattle.master_state.specs.declared.events.Event.{Event}
use Rattle.hand_ledger.specs.Hands.{with_call}
use Rattle.shared_master.specs.Waves.{kept_as}
use Rattle.std.proofs.lemmas.Grind.{common_steps}
use Rattle.shared_master.specs.Aheads.{IsWaiting}
use Rattle.shared_master.specs.Held.{HeldValue}
use Rattle.shared_master.specs.Steps.{IsOwn}
use Rattle.shared_master.proofs.Heads.{has_room-heads, heads_few, queued_as}
use Rattle.shared_master.proofs.Waving.{by_ahead, last_wave}
use Rattle.shared_master.proofs.held.Held.start_ahead.Goals as goal

pub keep_starts-requires-clause-last : goal.keep_starts-requires-clause-last
keep_starts-requires-clause-last g c =
    last_wave _ _ _ _ _ (by_ahead _ _ _ _ _ _ c.in-Ok-start_ahead.ensures.committed.2)

pub keep_starts-requires-clause-fits : goal.keep_starts-requires-clause-fits
keep_starts-requires-clause-fits g c =
    omega (
      arith,
      c.in-Ok.ensures.capacity,
      c.splits-splits.ensures,
      ap (λ (h : HeldValue). length h.job.setup.cluster.splits) c.self.view_is,
      heads_few _ _ _ _ _ _ c.in-Ok-start_ahead.ensures.committed.2,
    )

pub keep_starts-requires-clause-room : goal.keep_starts-requires-clause-room
keep_starts-requires-clause-room g c =
    has_room-heads _ _ c.args.hand.now _ _ _ _ _ (ap (λ (h : HeldValue). h.job) c.self.view_is) (search rules)
    c.in-Ok-start_ahead.ensures.committed.2

pub invariant_of-self-2 : goal.invariant_of-self-2
invariant_of-self-2 g c =
    let next = c.in-Ok-start_ahead.ensures.committed.2.next in
    grind (arith, common_steps, next.history, next.setup)

pub returns-clause-answer : goal.returns-clause-answer
returns-clause-answer g c =
    let own : IsOwn c.args.self.now.job c.args.hand.now = search rules in
    let ready : IsWaiting c.args.self.now.job → ⊥ =
    λ waits. true≢false (sym (c.is_waiting.ensures.1 waits) ∙ c.if-is_waiting.false) in
    let same = ap (λ (h : HeldValue). h.job) c.self.view_is in
    let committed = c.in-Ok-start_ahead.ensures.committed.2 in
    queued_as c.self.inside.master c.args.self.now.job c.args.hand.now _ _ _ _ c.keep_starts.result
    c.start_ahead.new.self c.keep_starts.new.hand same own ready
    (has_room-heads _ _ c.args.hand.now _ _ _ _ _ same (search rules) committed) committed
    c.is_kept.ensures c.keep_starts.ensures.wave c.keep_starts.ensures.starts
    (c.keep_starts.ensures.hand
    ∙ ap (λ (e : Event). with_call c.args.hand.now (kept_as e c.keep_starts.result))
    c.ahead_event-event.ensures)
