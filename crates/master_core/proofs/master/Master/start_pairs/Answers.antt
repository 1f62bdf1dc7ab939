use Rattle.std.proofs.Common.{refl, length, arith}
use Rattle.master_state.specs.declared.answers.Wave.{Wave}
use Rattle.master_core.specs.declared.master.Master.TheInside.{Inside}
use Rattle.master_core.specs.Inside.{setup_of, state_of}
use Rattle.master_core.proofs.Committing.{best_may_start, commits, starts_committed}
use Rattle.master_core.proofs.Lining.{lined_started}
use Rattle.master_core.proofs.Nearness.{bars_same, near_with_bars}
use Rattle.master_core.proofs.Touching.{flagged_started}
use Rattle.master_core.proofs.master.Master.start_pairs.Goals as goal

pub start_each-requires-clause-allowed : goal.start_each-requires-clause-allowed
start_each-requires-clause-allowed c =
    best_may_start c.self.invariant c.self.view_is c.requires.best refl c.requires.room

pub invariant_of-self : goal.invariant_of-self
invariant_of-self c =
    let j = c.args.self.now in
    let pairs = c.args.pairs.now in
    let wave : Wave = record {
      place = c.record_event-place.result;
      first = c.new-first.result;
      count = length pairs;
      cost = c.args.cost;
    } in
    let new : Inside = record c.self.inside {
      workers = c.start_each.new.workers;
      splits = c.start_each.new.splits;
      starts = c.start_each.new.starts;
      history = c.record_event-place.new.history;
      touched = c.touch_each.new.self;
    } in
    let now = state_of c.self.inside in
    let started = c.start_each.ensures.started now refl refl refl in
    commits c.self.inside new j pairs wave c.self.invariant c.self.view_is c.requires.priced
    (starts_committed c.self.inside new j pairs wave c.self.view_is c.requires.best c.requires.room
    (omega (arith, c.new-first.ensures, c.len.ensures)) refl c.requires.cost
    (rw (c.record_event-place.ensures.capacity, c.start_each.ensures.capacity) refl)
    c.record_event-place.ensures.items c.record_event-place.ensures.place started refl)
    (rw (c.record_event-place.ensures.capacity, c.start_each.ensures.capacity) refl)
    (c.start_each.ensures.made (setup_of c.self.inside) c.self.invariant.made) (
      near_with_bars c.self.inside.engine c.self.inside.cluster c.self.inside.holders
          (bars_same now pairs started) c.self.invariant.near.0,
      flagged_started c.self.inside.engine c.self.inside.touched c.touch_each.new.self now pairs started
          c.touch_each.ensures.splits c.touch_each.ensures.before c.self.invariant.near.1,
      lined_started c.self.inside.engine c.self.inside.touched c.touch_each.new.self now pairs started
          c.touch_each.ensures.workers c.touch_each.ensures.before c.self.invariant.near.2,
    )

pub returns : goal.returns
returns c =
    let j = c.args.self.now in
    let pairs = c.args.pairs.now in
    let wave : Wave = record {
      place = c.record_event-place.result;
      first = c.new-first.result;
      count = length pairs;
      cost = c.args.cost;
    } in
    let new : Inside = record c.self.inside {
      workers = c.start_each.new.workers;
      splits = c.start_each.new.splits;
      starts = c.start_each.new.starts;
      history = c.record_event-place.new.history;
      touched = c.touch_each.new.self;
    } in
    let started = c.start_each.ensures.started (state_of c.self.inside) refl refl refl in
    starts_committed c.self.inside new j pairs wave c.self.view_is c.requires.best c.requires.room
    (omega (arith, c.new-first.ensures, c.len.ensures)) refl c.requires.cost
    (rw (c.record_event-place.ensures.capacity, c.start_each.ensures.capacity) refl)
    c.record_event-place.ensures.items c.record_event-place.ensures.place started refl
