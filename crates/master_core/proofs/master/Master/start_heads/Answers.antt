use Rattle.std.proofs.Common.{ℕ, List, map, refl, ap, subst, sym, ◌∙◌, arith}
use Rattle.wave_problem.specs.Assignment.{pairs_of}
use Rattle.master_state.specs.declared.answers.Wave.{Wave}
use Rattle.master_state.specs.Refusals.{has_no_room}
use Rattle.master_tables.specs.Entries.{shown_as}
use Rattle.master_tables.specs.Starting.{MayStart}
use Rattle.master_core.specs.declared.master.Master.TheInside.{Inside}
use Rattle.master_core.specs.Inside.{setup_of, state_of}
use Rattle.master_core.proofs.Committing.{assigned_may_start}
use Rattle.master_core.proofs.Lining.{lined_started}
use Rattle.master_core.proofs.Nearness.{bars_same, near_with_bars}
use Rattle.master_core.proofs.Queueing.{committed_ahead, queue_assigned, queues_keep, seen_ahead}
use Rattle.master_core.proofs.Touching.{flagged_started}
use Rattle.master_core.proofs.master.Master.start_heads.Goals as goal

pub start_each-requires-clause-allowed : goal.start_each-requires-clause-allowed
start_each-requires-clause-allowed c =
    let j = c.args.self.now in
    let queued = c.args.queued.now in
    let plan = c.requires.plan in
    let pairs = c.deref.ensures.value ∙ plan.pairs in
    subst (λ (ps : List (ℕ × ℕ)). MayStart c.self.inside.workers (map shown_as c.self.inside.splits.items) ps)
    (sym pairs)
    (assigned_may_start c.self.invariant c.self.view_is (queue_assigned j c.args.asked.now queued plan)
    plan.totals.count (ap (has_no_room j.setup j.state) plan.totals.count ∙ c.requires.room))

pub invariant_of-self : goal.invariant_of-self
invariant_of-self c =
    let j = c.args.self.now in
    let queued = c.args.queued.now in
    let plan = c.requires.plan in
    let wave : Wave = record {
      place = c.record_event-place.result;
      first = c.new-first.result;
      count = queued.totals.count;
      cost = queued.totals.cost;
    } in
    let new : Inside = record c.self.inside {
      workers = c.start_each.new.workers;
      splits = c.start_each.new.splits;
      starts = c.start_each.new.starts;
      history = c.record_event-place.new.history;
      touched = c.touch_each.new.self;
    } in
    let now = state_of c.self.inside in
    let pairs = pairs_of queued.heads.starts in
    let are = c.deref.ensures.value ∙ plan.pairs in
    let started = rw are at c.start_each.ensures.started now refl refl refl in
    queues_keep c.self.inside new c.args.asked.now queued wave c.self.invariant
    (committed_ahead c.self.inside new j c.args.asked.now queued wave c.self.view_is plan
    (ap (has_no_room j.setup j.state) plan.totals.count ∙ c.requires.room)
    (omega (arith, c.new-first.ensures, c.len.ensures)) refl refl
    (rw (c.record_event-place.ensures.capacity, c.start_each.ensures.capacity) refl)
    c.record_event-place.ensures.items c.record_event-place.ensures.place started refl)
    (rw (c.record_event-place.ensures.capacity, c.start_each.ensures.capacity) refl)
    (c.start_each.ensures.made (setup_of c.self.inside) c.self.invariant.made) (
      near_with_bars c.self.inside.engine c.self.inside.cluster c.self.inside.holders
          (bars_same now pairs started) c.self.invariant.near.0,
      flagged_started c.self.inside.engine c.self.inside.touched c.touch_each.new.self now pairs started
          (rw (c.deref-2.ensures.value ∙ plan.pairs) at c.touch_each.ensures.splits) c.touch_each.ensures.before
          c.self.invariant.near.1,
      lined_started c.self.inside.engine c.self.inside.touched c.touch_each.new.self now pairs started
          (rw (c.deref-2.ensures.value ∙ plan.pairs) at c.touch_each.ensures.workers) c.touch_each.ensures.before
          c.self.invariant.near.2,
    )

pub returns : goal.returns
returns c =
    let j = c.args.self.now in
    let queued = c.args.queued.now in
    let plan = c.requires.plan in
    let wave : Wave = record {
      place = c.record_event-place.result;
      first = c.new-first.result;
      count = queued.totals.count;
      cost = queued.totals.cost;
    } in
    let new : Inside = record c.self.inside {
      workers = c.start_each.new.workers;
      splits = c.start_each.new.splits;
      starts = c.start_each.new.starts;
      history = c.record_event-place.new.history;
      touched = c.touch_each.new.self;
    } in
    let are = c.deref.ensures.value ∙ plan.pairs in
    let started = rw are at c.start_each.ensures.started (state_of c.self.inside) refl refl refl in
    seen_ahead c.self.inside new j c.args.asked.now queued wave c.self.view_is
    (committed_ahead c.self.inside new j c.args.asked.now queued wave c.self.view_is plan
    (ap (has_no_room j.setup j.state) plan.totals.count ∙ c.requires.room)
    (omega (arith, c.new-first.ensures, c.len.ensures)) refl refl
    (rw (c.record_event-place.ensures.capacity, c.start_each.ensures.capacity) refl)
    c.record_event-place.ensures.items c.record_event-place.ensures.place started refl)
