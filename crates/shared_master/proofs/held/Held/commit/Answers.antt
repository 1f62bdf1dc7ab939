use Rattle.std.proofs.Common.{◌≡◌, true, ap, rules}
use Rattle.std.proofs.Common.{◌∙◌}
use Rattle.master_state.specs.declared.events.Event.{Event}
use Rattle.hand_ledger.specs.Hands.{has_room, with_call}
use Rattle.shared_master.specs.Waves.{kept_as}
use Rattle.shared_master.specs.Held.{HeldValue}
use Rattle.shared_master.specs.Steps.{IsOwn}
use Rattle.shared_master.proofs.Waving.{by_wave, last_wave, shared_wave}
use Rattle.shared_master.proofs.held.Held.commit.Goals as goal

pub keep_starts-requires-clause-last : goal.keep_starts-requires-clause-last
keep_starts-requires-clause-last g c = last_wave _ _ _ _ _ (by_wave _ _ _ _ c.in-Ok.ensures.1)

pub returns-clause-answer : goal.returns-clause-answer
returns-clause-answer g c =
    let own : IsOwn c.args.self.now.job c.args.hand.now = search rules in
    let room : has_room c.args.hand.now 0 c.in-Ok.wave.count ≡ true = search rules in
    shared_wave c.self.inside.master c.args.self.now.job c.args.hand.now
    c.args.solved.planned.plan.starts c.args.solved.planned.prices c.in-Ok.wave c.keep_starts.result
    c.commit.new.self c.keep_starts.new.hand (ap (λ (h : HeldValue). h.job) c.self.view_is) own room
    c.in-Ok.ensures c.is_kept.ensures c.keep_starts.ensures.wave c.keep_starts.ensures.starts
    (c.keep_starts.ensures.hand
    ∙ ap (λ (e : Event). with_call c.args.hand.now (kept_as e c.keep_starts.result))
    c.wave_event-event.ensures)
