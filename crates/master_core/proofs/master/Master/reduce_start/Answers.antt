use Rattle.std.proofs.Common.{◌≡◌, ◌+◌, length, refl, sym, ap, ◌∙◌, arith, subst}
use Rattle.master_state.specs.declared.answers.Reply.{Reply}
use Rattle.master_state.specs.Refusals.{ReduceStart}
use Rattle.master_state.specs.Jobs.{Job, IsReply}
use Rattle.master_core.specs.Inside.{job_of, state_of}
use Rattle.master_core.proofs.Accepting.{Follows, follows, is_false}
use Rattle.master_core.proofs.Lining.{lined_updated}
use Rattle.master_core.proofs.Touching.{flagged_then}
use Rattle.master_core.proofs.PartStarts.{IsNextIn, entry_of_each, next_in, reduce_started_is}
use Rattle.master_core.proofs.master.Master.reduce_start.Goals.{In-Some}
use Rattle.master_core.proofs.master.Master.reduce_start.Goals as goal

next : (c : In-Some) → IsNextIn c.self.inside c.in-Some.next.part c.in-Some.next.worker
next c =
    next_in c.self.invariant c.self.view_is (is_false _ c.in-Some.ensures.ready) c.in-Some.ensures.part
    c.in-Some.ensures.worker

pub runs_of-requires-clause-part : goal.runs_of-requires-clause-part
runs_of-requires-clause-part c = (next (goal.at.runs_of-requires-clause-part c).In-Some).known

pub runs_of-requires-clause-splits : goal.runs_of-requires-clause-splits
runs_of-requires-clause-splits c =
    ap length c.deref.ensures.value ∙ entry_of_each c.self.invariant

pub start_part-requires-clause-worker : goal.start_part-requires-clause-worker
start_part-requires-clause-worker c = (next (goal.at.start_part-requires-clause-worker c).In-Some).worker

pub start_part-requires-clause-free : goal.start_part-requires-clause-free
start_part-requires-clause-free c = (next (goal.at.start_part-requires-clause-free c).In-Some).free

pub start_part-requires-clause-part : goal.start_part-requires-clause-part
start_part-requires-clause-part c = (next (goal.at.start_part-requires-clause-part c).In-Some).part

number_is : (c : goal.After-record_event-place) → c.new-attempt.result ≡ length c.self.inside.starts.items + 1
number_is c = omega (arith, c.new-attempt.ensures, c.len.ensures)

after : (c : goal.After-record_event-place) →
    Follows (record c.self.inside {
      workers = c.start_part.new.workers;
      parts = c.start_part.new.parts;
      starts = c.start_part.new.starts;
      touched = c.touch_worker.new.self;
      history = c.record_event-place.new.history;
    }) c.args.self.now ReduceStart c.record_event-place.result
after c =
    let next = next (goal.at.returns c).In-Some in
    follows ReduceStart c.self.invariant c.self.view_is tt (rw (
      is_false _ c.in-Some.ensures.ready,
      sym
          c.has_no_room.ensures ∙ c.if-has_no_room.false,
    ) refl)
    (rw (c.record_event-place.ensures.capacity, c.start_part.ensures.capacity) refl)
    (c.record_event-place.ensures.items ∙ rw (number_is c, next.part_is, next.worker_is) refl)
    c.record_event-place.ensures.place
    (reduce_started_is (state_of c.self.inside) (number_is c) next.part_is next.worker_is
    c.start_part.ensures.taken c.start_part.ensures.running c.start_part.ensures.told) refl
    c.self.invariant.made (
      rw c.start_part.ensures.taken c.self.invariant.near.0,
      flagged_then c.self.inside.engine c.self.inside.touched c.touch_worker.new.self (state_of c.self.inside).splits
          c.touch_worker.ensures.before c.self.invariant.near.1,
      rw c.start_part.ensures.taken (lined_updated c.self.inside.engine c.self.inside.touched c.touch_worker.new.self _
          c.self.inside.workers.each c.in-Some.next.worker c.touch_worker.ensures.here
          c.touch_worker.ensures.before c.self.invariant.near.2),
    )

pub invariant_of-self : goal.invariant_of-self
invariant_of-self c = (after c).master

pub returns : goal.returns
returns c =
    let reply : Reply = record {
      attempt = c.new-attempt.result;
      part = c.in-Some.next.part;
      worker = c.in-Some.next.worker;
      runs = c.in-Ok.runs;
    } in
    let replied : IsReply (job_of c.self.inside) reply = record {
      attempt = number_is c;
      part = (next (goal.at.returns c).In-Some).part_is;
      worker = (next (goal.at.returns c).In-Some).worker_is;
      of_part = c.in-Ok.ensures.of_part;
      texts = c.in-Ok.ensures.texts;
    } in
    (subst (λ (i : Job). IsReply i reply) c.self.view_is replied, (after c).accepted)
