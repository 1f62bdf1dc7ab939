use Rattle.std.proofs.Common.{ℕ, [], ◌∷◌, ◌++◌, length, refl, ap, sym, ◌∙◌, subst, All, ◌<◌}
use Rattle.worker_table.specs.Workers.{Workers, silent_in, swept}
use Rattle.worker_table.proofs.Sweeps.{silent_below}
use Rattle.master_state.specs.declared.events.Event.TheVariants as events
use Rattle.master_state.specs.Refusals.{Sweep}
use Rattle.master_state.specs.Jobs.{Job}
use Rattle.master_state.proofs.Sweeping.{heard_state}
use Rattle.master_core.specs.Inside.{setup_of, state_of}
use Rattle.master_core.proofs.Accepting.{Follows, follows}
use Rattle.master_core.proofs.Burying.{swept_is}
use Rattle.master_core.proofs.Lining.{lined_swept}
use Rattle.master_core.proofs.Nearness.{near_swept}
use Rattle.master_core.proofs.Touching.{flagged_swept}
use Rattle.master_core.proofs.master.Master.sweep.Goals as goal

after : (c : goal.After-record_event) →
    Follows (record c.self.inside {
      workers = c.bury_all.new.workers;
      holders = c.bury_all.new.holders;
      splits = c.bury_all.new.splits;
      parts = c.bury_all.new.parts;
      sweeps = c.record_counts-place.new.sweeps;
      engine = c.turn_far_by.new.self;
      history = c.record_event.new.history;
    }) c.args.self.now (Sweep c.args.counts.now) c.record_event.result
after c =
    let old = c.self.inside in
    let counts = c.args.counts.now in
    let buried = c.bury_all.ensures.died (heard_state (state_of old) counts) (sym c.sweep.ensures.heard) refl
    refl refl in
    follows (Sweep counts) c.self.invariant c.self.view_is c.requires.known
    (rw (sym c.has_no_sweep.ensures ∙ c.if-has_no_sweep.false) refl)
    (rw (
      c.record_event.ensures.capacity,
      c.record_counts-place.ensures.capacity,
      c.record_counts-place.ensures.workers,
    ) refl)
    (c.record_event.ensures.items
    ∙ ap (λ (n : ℕ). old.history.items ++ events.Sweep n ∷ []) c.record_counts-place.ensures.place)
    c.record_event.ensures.place
    (swept_is (state_of old) counts c.sweep.new.dead.items c.sweep.new.self _ c.sweep.ensures.heard
    c.sweep.ensures.dead buried
    ∙ rw c.record_counts-place.ensures.items refl) refl
    (c.bury_all.ensures.made (setup_of old) c.self.invariant.made) (
      near_swept (state_of old) counts old.engine c.turn_far_by.new.self old.cluster c.sweep.new.dead.items _
          c.turn_far_by.ensures.near c.self.invariant.near.0 buried,
      flagged_swept (state_of old) counts old.engine c.turn_far_by.new.self old.touched
          c.sweep.new.dead.items _ c.turn_far_by.ensures.flagged c.self.invariant.near.1 buried,
      lined_swept (state_of old) counts old.engine c.turn_far_by.new.self old.touched c.sweep.new.dead.items _
          c.turn_far_by.ensures.lined c.self.invariant.near.2 buried,
    )

pub bury_all-requires : goal.bury_all-requires
bury_all-requires c =
    subst (λ those. All (λ w. w < length c.sweep.new.self.each) those) (sym c.sweep.ensures.dead)
    (silent_below c.sweep.new.self)

pub invariant_of-self : goal.invariant_of-self
invariant_of-self c = (after c).master

pub returns-clause-answer : goal.returns-clause-answer
returns-clause-answer c = record {
  answer = (after c).accepted;
  dead_are =
      c.sweep.ensures.dead ∙ ap (λ (t : Workers). silent_in t) c.sweep.ensures.heard
      ∙ ap (λ (i : Job). silent_in (swept i.state.workers c.args.counts.now)) c.self.view_is;
}
