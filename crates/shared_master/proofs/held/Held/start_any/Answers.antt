use Rattle.std.proofs.Common.{arith, ap, sym, subst, ◌∙◌, rules, length}
use Rattle.shared_master.specs.declared.waves.WaveError.{WaveError}
use Rattle.shared_master.specs.Held.{HeldValue}
use Rattle.shared_master.specs.Steps.{IsOwn}
use Rattle.master_state.specs.declared.events.Event.{Event}
use Rattle.hand_ledger.specs.Hands.{with_call}
use Rattle.shared_master.specs.Waves.{IsUnplanned, kept_as, noted_wave}
use Rattle.shared_master.proofs.Waving.{by_wave, has_room-wave, last_wave, planned_as, unplanned_as, wave_few}
use Rattle.shared_master.proofs.held.Held.start_any.Goals as goal

pub keep_starts-requires-clause-last : goal.keep_starts-requires-clause-last
keep_starts-requires-clause-last g c =
    last_wave _ _ _ _ _ (by_wave _ _ _ _ c.in-Ok-start_wave.ensures.started.committed)

pub keep_starts-requires-clause-fits : goal.keep_starts-requires-clause-fits
keep_starts-requires-clause-fits g c =
    omega (
      arith,
      c.in-Ok.ensures.capacity,
      c.splits-splits.ensures,
      ap (λ (h : HeldValue). length h.job.setup.cluster.splits) c.self.view_is,
      wave_few _ _ _ _ c.in-Ok-start_wave.ensures.started.committed,
    )

pub keep_starts-requires-clause-room : goal.keep_starts-requires-clause-room
keep_starts-requires-clause-room g c =
    has_room-wave _ _ c.args.hand.now _ _ _ (ap (λ (h : HeldValue). h.job) c.self.view_is) c.requires.room
    c.in-Ok-start_wave.ensures.started.committed

pub returns-in-Err-HistoryFull-clause-answer : goal.returns-in-Err-HistoryFull-clause-answer
returns-in-Err-HistoryFull-clause-answer g c =
    let own : IsOwn c.args.self.now.job c.args.hand.now = search rules in
    let same = ap (λ (h : HeldValue). h.job) c.self.view_is in
    let refused = c.refused-in-Err-HistoryFull.ensures in (
      subst (λ (e : WaveError). IsUnplanned c.args.self.now.job c.args.hand.now e) (sym refused.error)
          (unplanned_as _ _ c.args.hand.now same own (c.in-Err-HistoryFull.ensures.full (search rules))),
      c.in-Err-HistoryFull.ensures.err ∙ same,
      refused.hand ∙ (λ k. noted_wave (c.splits-splits.ensures k) c.args.hand.now (sym refused.error k)),
    )

pub returns-clause-answer : goal.returns-clause-answer
returns-clause-answer g c =
    let own : IsOwn c.args.self.now.job c.args.hand.now = search rules in
    let started = c.in-Ok-start_wave.ensures.started in
    planned_as c.self.inside.master c.args.self.now.job c.args.hand.now _ _ _ c.keep_starts.result
    c.start_wave.new.self c.keep_starts.new.hand (ap (λ (h : HeldValue). h.job) c.self.view_is) own
    c.requires.room started.planned.over started.planned.certifies
    started.committed c.is_kept.ensures c.keep_starts.ensures.wave
    c.keep_starts.ensures.starts
    (c.keep_starts.ensures.hand
    ∙ ap (λ (e : Event). with_call c.args.hand.now (kept_as e c.keep_starts.result))
    c.wave_event-event.ensures)
