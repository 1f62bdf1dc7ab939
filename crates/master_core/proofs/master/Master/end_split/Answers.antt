use Rattle.std.proofs.Common.{◌∙◌, refl, sym, ap, [], ◌∷◌, ◌++◌, map}
use Rattle.master_state.specs.declared.events.Event.{Event}
use Rattle.master_state.specs.Steps.{worker_line}
use Rattle.master_state.specs.Tests.{is_numbered}
use Rattle.master_tables.specs.Entries.{entry_without, shown_as}
use Rattle.master_tables.proofs.Showing.{shown-ended}
use Rattle.master_core.specs.Attempts.{split_end}
use Rattle.master_core.specs.Inside.{state_of}
use Rattle.master_core.proofs.Accepting.{Follows, follows, with_tables}
use Rattle.master_core.proofs.Ended.{bar_fits, made_ended, split_ended, split_known, split_plain, split_runs_in}
use Rattle.master_core.proofs.Ended.{split_slot}
use Rattle.master_core.proofs.Lining.{lined_freed}
use Rattle.master_core.proofs.Touching.{flagged_updated}
use Rattle.master_core.proofs.master.Master.end_split.Goals as goal

pub free_slot-requires-clause-taken : goal.free_slot-requires-clause-taken
free_slot-requires-clause-taken c = (split_slot c.self.invariant c.self.view_is c.requires.0).taken

pub free_slot-requires-clause-bars : goal.free_slot-requires-clause-bars
free_slot-requires-clause-bars c = split_known c.self.invariant c.self.view_is c.requires.0

pub free_slot-requires-clause-room : goal.free_slot-requires-clause-room
free_slot-requires-clause-room c =
    bar_fits c.self.invariant c.self.view_is (sym c.has_no_place.ensures ∙ c.if-has_no_place.false)

after : (c : goal.After-record_event) →
    Follows (with_tables (record c.self.inside {
      engine = c.free_slot.new.engine;
      touched = c.touch.new.self;
    }) c.free_slot.new.workers
    c.self.inside.holders c.end_attempt.new.entries c.self.inside.parts c.record_event.new.history)
    c.args.self.now (split_end c.args.end c.args.attempt) c.record_event.result
after c =
    let old = c.self.inside in
    let j = c.args.self.now in
    let plain = split_plain j.setup j.state c.args.attempt c.args.end c.requires.1
    (sym c.has_no_place.ensures ∙ c.if-has_no_place.false) in
    follows (split_end c.args.end c.args.attempt) c.self.invariant c.self.view_is plain.known plain.allowed
    (rw c.record_event.ensures.capacity refl)
    (c.record_event.ensures.items
    ∙ ap (λ (e : Event). old.history.items ++ e ∷ []) (c.of_split.ensures.event (state_of old)))
    c.record_event.ensures.place
    (split_ended c.self.invariant.kept.tidy (split_runs_in c.self.invariant c.self.view_is c.requires.0)
    c.args.end
    ∙ rw (
      c.free_slot.ensures.freed,
      c.end_attempt.ensures,
      shown-ended (is_numbered c.args.attempt) old.splits.items c.args.found.split,
    ) refl)
    (plain.results old.results.items)
    (rw c.end_attempt.ensures (made_ended c.args.attempt c.args.found.split c.self.invariant)) (
      c.free_slot.ensures.near old.cluster old.holders c.self.invariant.near.0,
      c.free_slot.ensures.flagged c.touch.new.self (map shown_as c.end_attempt.new.entries.items)
          (rw c.end_attempt.ensures (flagged_updated old.engine old.touched c.touch.new.self (entry_without (is_numbered c.args.attempt))
          old.splits.items c.args.found.split c.touch.ensures.split c.touch.ensures.before
          c.self.invariant.near.1)),
      c.free_slot.ensures.lined c.touch.new.self (map worker_line c.free_slot.new.workers.each)
          (rw c.free_slot.ensures.freed (lined_freed c.args.end old.engine old.touched c.touch.new.self old.workers
          c.args.found.split c.args.found.worker c.touch.ensures.worker c.touch.ensures.before
          c.self.invariant.near.2)),
    )

pub invariant_of-self : goal.invariant_of-self
invariant_of-self c = (after c).master

pub returns : goal.returns
returns c = (after c).accepted
