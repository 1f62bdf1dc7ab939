use Rattle.std.proofs.Common.{◌∙◌, refl, sym, ap, [], ◌∷◌, ◌++◌}
use Rattle.master_state.specs.declared.events.Event.{Event}
use Rattle.master_core.specs.Attempts.{part_end}
use Rattle.master_core.specs.Inside.{state_of}
use Rattle.master_core.proofs.Accepting.{Follows, follows, with_tables}
use Rattle.master_core.proofs.Ended.{part_ended, part_plain, part_runs_in, part_slot}
use Rattle.master_core.proofs.Lining.{lined_updated}
use Rattle.master_core.proofs.Touching.{flagged_then}
use Rattle.master_core.proofs.master.Master.end_part.Goals as goal

pub give_slot-requires-clause-taken : goal.give_slot-requires-clause-taken
give_slot-requires-clause-taken c = (part_slot c.self.invariant c.self.view_is c.requires.0).taken

after : (c : goal.After-record_event) →
    Follows (with_tables (record c.self.inside { touched = c.touch_worker.new.self }) c.give_slot.new.self c.self.inside.holders c.self.inside.splits
    c.end_part_attempt.new.parts c.record_event.new.history) c.args.self.now (part_end c.args.end
    c.args.attempt) c.record_event.result
after c =
    let old = c.self.inside in
    let j = c.args.self.now in
    let plain = part_plain j.setup j.state c.args.attempt c.args.end c.requires.1 c.requires.2
    (sym c.has_no_place.ensures ∙ c.if-has_no_place.false) in
    follows (part_end c.args.end c.args.attempt) c.self.invariant c.self.view_is plain.known plain.allowed
    (rw c.record_event.ensures.capacity refl)
    (c.record_event.ensures.items
    ∙ ap (λ (e : Event). old.history.items ++ e ∷ []) (c.of_part.ensures.event (state_of old)))
    c.record_event.ensures.place
    (part_ended c.self.invariant.kept.tidy (part_runs_in c.self.invariant c.self.view_is c.requires.0)
    c.args.end
    ∙ rw (c.give_slot.ensures, c.end_part_attempt.ensures) refl)
    (plain.results old.results.items) c.self.invariant.made (
      rw c.give_slot.ensures c.self.invariant.near.0,
      flagged_then c.self.inside.engine c.self.inside.touched c.touch_worker.new.self (state_of c.self.inside).splits
          c.touch_worker.ensures.before c.self.invariant.near.1,
      rw c.give_slot.ensures (lined_updated c.self.inside.engine c.self.inside.touched c.touch_worker.new.self _
          c.self.inside.workers.each c.args.found.worker c.touch_worker.ensures.here
          c.touch_worker.ensures.before c.self.invariant.near.2),
    )

pub invariant_of-self : goal.invariant_of-self
invariant_of-self c = (after c).master

pub returns : goal.returns
returns c = (after c).accepted
