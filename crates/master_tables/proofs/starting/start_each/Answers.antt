use Rattle.std.proofs.Common.{◌≡◌, ℕ, ◌+◌, ◌<◌, List, ◌∷◌, [], length, drop, get_or, map, sym, ap, ◌∙◌}
use Rattle.std.proofs.Common.{arith, subst, length-append}
use Rattle.std.specs.Prelude.{fold}
use Rattle.std.proofs.lemmas.List.{drop_more, length-map}
use Rattle.worker_table.specs.Workers.{Workers}
use Rattle.master_state.specs.declared.states.SplitState.{SplitState}
use Rattle.master_state.specs.declared.states.Work.TheVariants as works
use Rattle.master_state.specs.States.{State}
use Rattle.master_state.specs.Changes.{split_started}
use Rattle.master_tables.specs.Entries.{shown_as}
use Rattle.master_tables.specs.Starting.{MayStart}
use Rattle.master_tables.proofs.Showing.{made_updated}
use Rattle.master_tables.proofs.Starts.{first_slot, run_by, run_makes_none, started_next, others_may_start}
use Rattle.master_tables.proofs.starting.start_each.Goals as goal

-- the next start is before the others
next : (pairs : List (ℕ × ℕ)) (k : ℕ) (x : ℕ × ℕ) → k < length pairs → x ≡ get_or pairs k x →
    drop k pairs ≡ (x.0, x.1) ∷ drop (k + 1) pairs
next pairs k x within is =
    drop_more pairs k x within ∙ ap (λ (y : ℕ × ℕ). y ∷ drop (k + 1) pairs) (sym is)

-- and may be made
next_may : (workers : Workers) (splits : List SplitState) (pairs : List (ℕ × ℕ)) (k : ℕ) (x : ℕ × ℕ) →
    k < length pairs → x ≡ get_or pairs k x → MayStart workers splits (drop k pairs) →
    MayStart workers splits ((x.0, x.1) ∷ drop (k + 1) pairs)
next_may workers splits pairs k x within is may =
    subst (λ (rest : List (ℕ × ℕ)). MayStart workers splits rest) (next pairs k x within is) may

pub start_one-requires-clause-worker : goal.start_one-requires-clause-worker
start_one-requires-clause-worker c =
    (first_slot _ _ _ _ _
    (next_may _ _ _ _ _ c.loop-pair-test.true c.pair-item.is c.loop-pair.invariant.allowed)).0

pub start_one-requires-clause-free : goal.start_one-requires-clause-free
start_one-requires-clause-free c =
    (first_slot _ _ _ _ _
    (next_may _ _ _ _ _ c.loop-pair-test.true c.pair-item.is c.loop-pair.invariant.allowed)).1

pub start_one-requires-clause-split : goal.start_one-requires-clause-split
start_one-requires-clause-split c =
    let x = c.pair-item.result in
    let may = next_may _ _ _ _ _ c.loop-pair-test.true c.pair-item.is c.loop-pair.invariant.allowed in
    omega (arith, may.known 0 (x.0, x.1) (omega arith), length-map c.loop-pair.splits.items shown_as)

pub start_one-requires-clause-room : goal.start_one-requires-clause-room
start_one-requires-clause-room c =
    let here = ap length (next _ _ _ c.loop-pair-test.true c.pair-item.is) in
    omega (arith, c.loop-pair.invariant.room, c.loop-pair.invariant.capacity, here, c.requires.room)

pub start_one-requires-clause-few : goal.start_one-requires-clause-few
start_one-requires-clause-few c =
    let here = ap length (next _ _ _ c.loop-pair-test.true c.pair-item.is) in
    omega (arith, c.loop-pair.invariant.room, here, c.requires.few)

pub loop-pair-preserved : goal.loop-pair-preserved
loop-pair-preserved c =
    let l = c.loop-pair in
    let split : ℕ = c.pair-item.result.0 in
    let worker : ℕ = c.pair-item.result.1 in
    let one = c.start_one in
    let later = drop (l.pair-index + 1) c.args.pairs.now in
    let front = next _ _ _ c.loop-pair-test.true c.pair-item.is in
    let may = next_may _ _ _ _ _ c.loop-pair-test.true c.pair-item.is l.invariant.allowed in
    record {
      allowed = others_may_start l.workers one.new.workers l.splits.items one.new.splits.items l.starts.items
          split worker later may one.ensures.taken one.ensures.running;
      room = omega (
        arith,
        l.invariant.room,
        ap length front,
        ap length one.ensures.told,
        length-append l.starts.items (record { work = works.Split split; worker = worker } ∷ []),
      );
      capacity = one.ensures.capacity ∙ l.invariant.capacity;
      rest = λ s workers splits told.
          (let now : State = record s {
            workers = l.workers;
            splits = map shown_as l.splits.items;
            starts = l.starts.items;
          } in
          ap (λ (x : State). fold (λ now pair. split_started now pair.0 pair.1) x later)
          (started_next s l.workers one.new.workers l.splits.items one.new.splits.items l.starts.items
          one.new.starts.items split worker (may.pending 0 (split, worker) (omega arith)) one.ensures.taken
          one.ensures.running one.ensures.told)
          ∙ sym (ap (fold (λ now pair. split_started now pair.0 pair.1) now) front)
          ∙ l.invariant.rest s workers splits told);
      made = λ setup made. rw one.ensures.running
          (made_updated setup (λ _. run_by (length l.starts.items + 1) worker) l.splits.items split
          (run_makes_none (length l.starts.items + 1) worker) (l.invariant.made setup made));
    }
