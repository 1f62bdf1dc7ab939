use Rattle.std.proofs.Common.{◌∙◌, refl, sym}
use Rattle.master_state.specs.Refusals.{PartDone}
use Rattle.master_core.specs.Inside.{state_of}
use Rattle.master_core.proofs.Accepting.{Follows, follows}
use Rattle.master_core.proofs.Completing.{part_done_is, part_refusal}
use Rattle.master_core.proofs.Ended.{part_runs_in, part_slot}
use Rattle.master_core.proofs.ResultRoom.{result_room}
use Rattle.master_core.proofs.Lining.{lined_updated}
use Rattle.master_core.proofs.Touching.{flagged_then}
use Rattle.master_core.proofs.master.Master.finish_part.Goals as goal

pub returns-then-is_wrong_part-clause-answer : goal.returns-then-is_wrong_part-clause-answer
returns-then-is_wrong_part-clause-answer c =
    let refused = part_refusal c.self.invariant c.self.view_is c.args.made c.requires c.is_wrong_part.ensures.wrong
    c.if-is_wrong_part.true refl in
    record { refused = refused; same = refl }

pub returns-then-has_no_place-clause-answer : goal.returns-then-has_no_place-clause-answer
returns-then-has_no_place-clause-answer c =
    let refused = part_refusal c.self.invariant c.self.view_is c.args.made c.requires c.is_wrong_part.ensures.wrong
    c.if-is_wrong_part.false (sym c.has_no_place.ensures ∙ c.if-has_no_place.true) in
    record { refused = refused; same = refl }

pub give_slot-requires : goal.give_slot-requires
give_slot-requires c =
    let takes = part_slot c.self.invariant c.self.view_is c.requires.0 in
    record { known = takes.known; taken = takes.taken }

pub record_result-requires : goal.record_result-requires
record_result-requires c =
    result_room c.self.invariant (part_runs_in c.self.invariant c.self.view_is c.requires.0)

after : (c : goal.After-record_event) →
    Follows (record c.self.inside {
      workers = c.give_slot.new.self;
      parts = c.finish_part.new.parts;
      results = c.record_result.new.results;
      touched = c.touch_worker.new.self;
      history = c.record_event.new.history;
    }) c.args.self.now (PartDone c.args.attempt c.args.made) c.record_event.result
after c =
    follows (PartDone c.args.attempt c.args.made) c.self.invariant c.self.view_is c.is_wrong_part.ensures.merged
    (part_refusal c.self.invariant c.self.view_is c.args.made c.requires c.is_wrong_part.ensures.wrong
    c.if-is_wrong_part.false (sym c.has_no_place.ensures ∙ c.if-has_no_place.false))
    (rw (c.record_event.ensures.capacity, c.record_result.ensures.capacity) refl)
    c.record_event.ensures.items c.record_event.ensures.place
    (part_done_is c.self.invariant.kept.tidy (part_runs_in c.self.invariant c.self.view_is c.requires.0)
    ∙ rw (c.give_slot.ensures, c.finish_part.ensures) refl)
    c.record_result.ensures.items c.self.invariant.made (
      rw c.give_slot.ensures c.self.invariant.near.0,
      flagged_then c.self.inside.engine c.self.inside.touched c.touch_worker.new.self (state_of c.self.inside).splits
          c.touch_worker.ensures.before c.self.invariant.near.1,
      rw c.give_slot.ensures (lined_updated c.self.inside.engine c.self.inside.touched c.touch_worker.new.self _
          c.self.inside.workers.each c.args.found.worker c.touch_worker.ensures.here
          c.touch_worker.ensures.before c.self.invariant.near.2),
    )

pub invariant_of-self : goal.invariant_of-self
invariant_of-self c = (after c).master

pub returns-clause-answer : goal.returns-clause-answer
returns-clause-answer c = (after c).accepted
