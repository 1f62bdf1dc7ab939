-- Which events bar pairs: each uses the room of one bar at most.
use Rattle.std.proofs.Common.{◌≡◌, ℕ, ◌+◌, ◌≤◌, List, [], ◌∷◌, refl, arith}
use Rattle.std.specs.Prelude.{fold}
use Rattle.worker_table.specs.Workers.{Workers, silent_in, swept, with_slot_given}
use Rattle.master_state.specs.declared.states.Attempt.{Attempt}
use Rattle.master_state.specs.States.{State}
use Rattle.master_state.specs.Tests.{attempts_of, split_at, split_running}
use Rattle.master_state.specs.Refusals.{Call, MapDone, MapFailed, Withdraw, Die, Join, Add, Lose, Sweep}
use Rattle.master_state.specs.Refusals.{ReduceStart, PartDone, PartFailed, Backup}
use Rattle.master_state.specs.Changes.{after, after_wave, died, split_started}
use Rattle.master_state.proofs.Slots.{all_given}
use Rattle.master_state.proofs.Starting.{all_started}
use Rattle.master_state.proofs.Sweeping.{events_all_died, heard_state}
use Rattle.master_state.proofs.Waves.{events_all_started}

-- slots that are given back, starts and deaths bar nothing
pub bars_given : (t : Workers) (attempts : List Attempt) → (all_given t attempts).barred ≡ t.barred
bars_given t [] = refl
bars_given t (attempt ∷ attempts) = bars_given (with_slot_given t attempt.worker) attempts

pub bars_started : (s : State) (pairs : List (ℕ × ℕ)) →
    (all_started s pairs).workers.barred ≡ s.workers.barred
bars_started s [] = refl
bars_started s (pair ∷ pairs) = bars_started (split_started s pair.0 pair.1) pairs

pub bars_died : (s : State) (dead : List ℕ) → (fold died s dead).workers.barred ≡ s.workers.barred
bars_died s [] = refl
bars_died s (w ∷ dead) = bars_died (died s w) dead

-- how many bars there is room for, and how many events there were
abbrev room_and_events : State → ℕ
room_and_events s = s.workers.barred.room + s.events

pub room_after : (s : State) (call : Call) → room_and_events s ≤ room_and_events (after s call)
room_after s (MapDone a result) =
    let gone = attempts_of (split_at s (split_running s a)) in
    rw (bars_given s.workers gone) (omega arith)
room_after s (MapFailed a) = omega arith
room_after s (Withdraw a) = omega arith
room_after s (Die w) = omega arith
room_after s (Join w set) = omega arith
room_after s (Add split w) = omega arith
room_after s (Lose split w) = omega arith
room_after s (Sweep counts) =
    let dead = silent_in (swept s.workers counts) in
    rw (bars_died (heard_state s counts) dead, events_all_died (heard_state s counts) dead) (omega arith)
room_after s ReduceStart = omega arith
room_after s (PartDone a result) = omega arith
room_after s (PartFailed a) = omega arith
room_after s (Backup split w) = omega arith

pub room_after_wave : (s : State) (pairs : List (ℕ × ℕ)) →
    room_and_events s ≤ room_and_events (after_wave s pairs)
room_after_wave s pairs = rw (bars_started s pairs, events_all_started s pairs) (omega arith)
