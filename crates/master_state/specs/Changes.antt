-- What each event makes of a state.
use Rattle.std.specs.Prelude.{ℕ, ◌+◌, ◌&&◌, Bool, not, if◌then◌else◌, List, [], ◌∷◌, ◌++◌, map}
use Rattle.std.specs.Prelude.{filter, fold, find}
use Rattle.std.specs.Option.{option_map_or}
use Rattle.node_ids.specs.Updates.{updated}
use Rattle.worker_table.specs.Workers.{with_slot_taken, with_slot_given, with_death, with_return, with_bar}
use Rattle.worker_table.specs.Workers.{swept, silent_in}
use Rattle.block_map.specs.Holdings.{with_holder, with_holder_of_all, without_holder, without_worker}
use Rattle.master_state.specs.declared.states.Attempt.{Attempt}
use Rattle.master_state.specs.declared.states.Work.{Work}
use Rattle.master_state.specs.declared.states.Work.TheVariants as works
use Rattle.master_state.specs.declared.states.SplitState.{SplitState}
use Rattle.master_state.specs.declared.states.SplitState.TheVariants.{Pending, Done}
use Rattle.master_state.specs.declared.states.PartState.{PartState}
use Rattle.master_state.specs.declared.states.PartState.TheVariants as part
use Rattle.master_state.specs.States.{State, worker_of}
use Rattle.master_state.specs.Tests.{is_numbered, is_on, attempts_of, running, split_at, split_running}
use Rattle.master_state.specs.Tests.{next_part, next_worker, next_on, all_parts_done}
use Rattle.master_state.specs.Refusals.{Call, MapDone, MapFailed, Withdraw, Die, Join, Add, Lose, Sweep}
use Rattle.master_state.specs.Refusals.{ReduceStart, PartDone, PartFailed, Backup}

-- one event more
abbrev pub counted : State → State
counted s = record s { events = s.events + 1 }

-- the split or part without the attempts that the test names; one that runs none then is pending
abbrev pub without_attempts : (Attempt → Bool) → SplitState → SplitState
without_attempts test (Done attempt) = Done attempt
without_attempts test split = running (filter (λ attempt. not (test attempt)) (attempts_of split))

abbrev pub part_without : (Attempt → Bool) → PartState → PartState
part_without test (part.Running attempt) = if test attempt then part.Pending else part.Running attempt
part_without test state = state

-- the split or part that runs the attempt a is done
abbrev pub done_by : ℕ → SplitState → SplitState
done_by a split = option_map_or Done (find (is_numbered a) (attempts_of split)) split

abbrev pub part_done_by : ℕ → PartState → PartState
part_done_by a (part.Running attempt) = if is_numbered a attempt then part.Done else part.Running attempt
part_done_by a state = state

-- the attempt a runs no more, and its slot is given back
abbrev pub without_attempt : State → ℕ → State
without_attempt s a = record s {
  workers = with_slot_given s.workers (worker_of s a);
  splits = map (without_attempts (is_numbered a)) s.splits;
  parts = map (part_without (is_numbered a)) s.parts;
}

-- the next attempt is made for this work, and a slot of the worker is taken
abbrev pub with_start : State → Work → ℕ → State
with_start s work w = record s {
  workers = with_slot_taken s.workers w;
  starts = s.starts ++ record { work = work; worker = w } ∷ [];
}

-- the split runs the next attempt on w, beside the one that it may run
abbrev pub split_started : State → ℕ → ℕ → State
split_started s split w = record (with_start s (works.Split split) w) {
  splits = updated (λ state. running (attempts_of state ++ next_on s w ∷ [])) s.splits split;
}

-- a split after the death of w: its done attempt is lost too, unless it stays
abbrev pub after_death : Bool → ℕ → SplitState → SplitState
after_death stays w (Done attempt) = if is_on w attempt && not stays then Pending else Done attempt
after_death stays w split = without_attempts (is_on w) split

-- w is dead and holds nothing, its slots are free, and what it ran is pending, but for what runs elsewhere;
-- the splits that it had done are pending too, unless every part is done
abbrev pub died : State → ℕ → State
died s w = record s {
  workers = with_death s.workers w;
  holders = without_worker s.holders w;
  splits = map (after_death (all_parts_done s) w) s.splits;
  parts = map (part_without (is_on w)) s.parts;
}

-- the attempt a is done first: the slots of all attempts of its split are given back
abbrev pub with_map_done : State → ℕ → State
with_map_done s a = record s {
  workers = fold (λ table attempt. with_slot_given table attempt.worker) s.workers
      (attempts_of (split_at s (split_running s a)));
  splits = map (done_by a) s.splits;
}

-- the attempt a failed: its pair is barred
abbrev pub with_map_failed : State → ℕ → State
with_map_failed s a =
    let left = without_attempt s a in
    record left { workers = with_bar left.workers (split_running s a) (worker_of s a) }

-- Beats and silences change by the counts, which are kept. Then each worker dies that was silent too long.
abbrev pub with_sweep : State → List ℕ → State
with_sweep s counts =
    let table = swept s.workers counts in
    fold died (record s { workers = table; sweeps = s.sweeps ++ counts ∷ [] }) (silent_in table)

-- the lowest pending part runs the next attempt on the lowest live worker with a free slot
abbrev pub with_reduce_started : State → State
with_reduce_started s = record (with_start s (works.Part (next_part s)) (next_worker s)) {
  parts = updated (λ _. part.Running (next_on s (next_worker s))) s.parts (next_part s);
}

-- the part that runs the attempt a is done, and the slot is given back
abbrev pub with_part_done : State → ℕ → State
with_part_done s a = record s {
  workers = with_slot_given s.workers (worker_of s a);
  parts = map (part_done_by a) s.parts;
}

-- the change of each call
abbrev pub changed : State → Call → State
changed s (MapDone a result) = with_map_done s a
changed s (MapFailed a) = with_map_failed s a
changed s (Withdraw a) = without_attempt s a
changed s (Die w) = died s w
changed s (Join w set) =
    record s { workers = with_return s.workers w; holders = with_holder_of_all s.holders set w }
changed s (Add split w) = record s { holders = with_holder s.holders split w }
changed s (Lose split w) = record s { holders = without_holder s.holders split w }
changed s (Sweep counts) = with_sweep s counts
changed s ReduceStart = with_reduce_started s
changed s (PartDone a result) = with_part_done s a
changed s (PartFailed a) = without_attempt s a
changed s (Backup split w) = split_started s split w

-- the state after a call that is accepted, and after a wave with these starts: one event more
abbrev pub after : State → Call → State
after s call = counted (changed s call)

abbrev pub after_wave : State → List (ℕ × ℕ) → State
after_wave s pairs = counted (fold (λ now pair. split_started now pair.0 pair.1) s pairs)
