use Rattle.std.proofs.Common.{ℕ, [], ◌∷◌, ◌++◌, refl, sym, ap, ◌∙◌, arith}
use Rattle.std.proofs.lemmas.Grind.{common_steps}
use Rattle.master_state.specs.declared.events.Event.TheVariants as events
use Rattle.master_state.specs.declared.states.Attempt.{Attempt}
use Rattle.master_state.specs.States.{next_attempt}
use Rattle.master_state.specs.Refusals.{Backup}
use Rattle.master_state.specs.Jobs.{Job}
use Rattle.master_tables.specs.Entries.{entry_with}
use Rattle.master_core.specs.Inside.{setup_of}
use Rattle.master_core.proofs.Accepting.{Follows, follows}
use Rattle.master_core.proofs.Backing.{may_back}
use Rattle.master_core.proofs.Lining.{lined_updated}
use Rattle.master_core.proofs.Touching.{flagged_updated}
use Rattle.master_tables.proofs.Showing.{made_updated, shown-started, start_makes_none}
use Rattle.master_core.proofs.master.Master.backup.Goals as goal

after : (c : goal.After-record_event-place) →
    Follows (record c.self.inside {
      workers = c.take_slot.new.self;
      splits = c.run_attempt.new.entries;
      touched = c.touch.new.self;
      starts = c.record_start-number.new.starts;
      history = c.record_event-place.new.history;
    }) c.args.self.now (Backup c.args.split c.args.worker) c.record_event-place.result
after c =
    let old = c.self.inside in
    let split = c.args.split in
    let one : Attempt = record { number = c.record_start-number.result; worker = c.args.worker } in
    follows (Backup split c.args.worker) c.self.invariant c.self.view_is c.requires (sym
    c.why_not_backup.ensures ∙ c.in_default.is)
    (rw (c.record_event-place.ensures.capacity, c.record_start-number.ensures.capacity) refl)
    (c.record_event-place.ensures.items
    ∙ ap (λ (n : ℕ). old.history.items ++ events.Backup n split one.worker ∷ [])
    c.record_start-number.ensures.number)
    c.record_event-place.ensures.place
    (rw (
      c.take_slot.ensures,
      c.record_start-number.ensures.items,
      c.run_attempt.ensures,
      shown-started one old.splits.items split,
      c.record_start-number.ensures.number,
    ) refl) refl
    (rw c.run_attempt.ensures (made_updated (setup_of old) (entry_with one) old.splits.items split
    (start_makes_none one) c.self.invariant.made)) (
      rw c.take_slot.ensures c.self.invariant.near.0,
      rw c.run_attempt.ensures (flagged_updated old.engine old.touched c.touch.new.self (entry_with one) old.splits.items split
          c.touch.ensures.split c.touch.ensures.before c.self.invariant.near.1),
      rw c.take_slot.ensures (lined_updated old.engine old.touched c.touch.new.self _ old.workers.each c.args.worker
          c.touch.ensures.worker c.touch.ensures.before c.self.invariant.near.2),
    )

pub invariant_of-self : goal.invariant_of-self
invariant_of-self c = (after c).master

pub returns-clause-answer : goal.returns-clause-answer
returns-clause-answer c = (after c).accepted

pub returns-clause-attempt : goal.returns-clause-attempt
returns-clause-attempt c =
    c.record_start-number.ensures.number ∙ ap (λ (i : Job). next_attempt i.state) c.self.view_is

pub run_attempt-requires : goal.run_attempt-requires
run_attempt-requires c = grind (arith, common_steps)

pub take_slot-requires-clause-known : goal.take_slot-requires-clause-known
take_slot-requires-clause-known c = grind (arith, common_steps)

pub record_start-number-requires-clause-room : goal.record_start-number-requires-clause-room
record_start-number-requires-clause-room c =
    let room = (may_back c.args.split c.args.worker c.self.invariant c.self.view_is
    (sym c.why_not_backup.ensures ∙ c.in_default.is)).room in
    grind (arith, common_steps)

pub take_slot-requires-clause-free : goal.take_slot-requires-clause-free
take_slot-requires-clause-free c =
    (may_back c.args.split c.args.worker c.self.invariant c.self.view_is
    (sym c.why_not_backup.ensures ∙ c.in_default.is)).free
