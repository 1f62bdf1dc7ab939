-- A wave of two, the late result of a dead worker and its return, and a history that is full.
use Rattle.std.proofs.Common.{◌≡◌, ℕ, List, [], ◌∷◌, ◌++◌, Some, None, refl, map, true}
use Rattle.word_map.specs.Runs.{MapView}
use Rattle.wave_problem.specs.Assignment.{total}
use Rattle.worker_table.specs.Workers.{is_live, is_silent, swept}
use Rattle.block_map.specs.declared.HolderLimit.TheVariants.{Eight}
use Rattle.master_state.specs.declared.answers.Why.TheVariants.{OldAttempt, LiveWorker, HistoryFull}
use Rattle.master_state.specs.declared.states.SplitState.TheVariants.{Running, Pending}
use Rattle.master_state.specs.declared.states.Limits.{Limits}
use Rattle.master_state.specs.declared.states.Work.TheVariants as works
use Rattle.master_state.specs.States.{Setup, State, opening, start_of}
use Rattle.master_state.specs.Refusals.{MapDone, Join, Sweep, Add, Lose}
use Rattle.master_state.specs.Steps.{problem_of}
use Rattle.master_state.proofs.Scripts.{Move, Ask, Start, played, answers}

-- one rack, worker 0 with a slot, split 0 of 5 bytes on it, one part, a silence of 3
abbrev pub job_with : Limits → Setup
job_with limits = record {
  cluster = record {
    tree = record { centres = 1; centre_of = 0 ∷ []; rack_of = 0 ∷ [] };
    slots = 1 ∷ [];
    splits = record { bytes = 5; pending = true; holders = 0 ∷ [] } ∷ [];
    texts = record { split = 0; documents = [] } ∷ [];
    parts = 1;
    silence = 3;
    holder_limit = Eight;
  };
  limits = limits;
}

abbrev pub job : Setup
job = job_with (record { events = 9; attempts = 2; sweeps = 4 })

abbrev pub made : MapView
made = record { text = record { split = 0; documents = [] }; parts = 1 }

abbrev pub one_beat : List ℕ
one_beat = 1 ∷ []

abbrev pub three_sweeps : List Move
three_sweeps = Start ((0, 0) ∷ []) ∷ Ask (Sweep one_beat) ∷ Ask (Sweep one_beat) ∷ Ask (Sweep one_beat) ∷ []

abbrev pub silent : List Move
silent = three_sweeps ++ Ask (Sweep one_beat) ∷ []

abbrev pub script : List Move
script =
    silent
    ++ Ask (MapDone 1 made) ∷ Ask (Join 0 (0 ∷ [])) ∷ Ask (Join 0 []) ∷ Start ((0, 0) ∷ []) ∷ Ask
    (MapDone 1 made) ∷ []

answers_are : answers job script
    ≡ None ∷ None ∷ None ∷ None ∷ None ∷ Some OldAttempt ∷ None ∷ Some LiveWorker ∷ None ∷ Some OldAttempt ∷
    []
answers_are = refl

cost_is : total (problem_of job (opening job)) ((0, 0) ∷ []) ≡ 0
cost_is = refl

lives_still : is_live (played job three_sweeps).workers 0 ≡ true
lives_still = refl

dies_now : is_silent (swept (played job three_sweeps).workers one_beat) 0 ≡ true
dies_now = refl

-- the counts of each sweep are kept
counts_kept : (played job three_sweeps).sweeps ≡ (1 ∷ []) ∷ (1 ∷ []) ∷ (1 ∷ []) ∷ []
counts_kept = refl

-- the sweep in which it dies takes the split back, and its replica is gone
nothing_left : (played job silent).splits ≡ Pending ∷ []
nothing_left = refl

holds_nothing : (played job silent).holders ≡ [] ∷ []
holds_nothing = refl

-- its late result is ignored, which changes nothing
late_changes_nothing : played job (silent ++ Ask (MapDone 1 made) ∷ []) ≡ played job silent
late_changes_nothing = refl

-- back with its replica it runs a second attempt
second_attempt : (played job script).splits ≡ Running (record { number = 2; worker = 0 }) None ∷ []
second_attempt = refl

told : start_of (played job script) 2 ≡ start_of (played job script) 1
told = refl

events_are : (played job script).events ≡ 7
events_are = refl

-- two workers with a slot each, two splits on the first
abbrev pub two_with : Limits → Setup
two_with limits = record {
  cluster = record {
    tree = record { centres = 1; centre_of = 0 ∷ []; rack_of = 0 ∷ 0 ∷ [] };
    slots = 1 ∷ 1 ∷ [];
    splits = record { bytes = 10; pending = true; holders = 0 ∷ [] } ∷ record {
      bytes = 20;
      pending =
          true;
      holders = 0 ∷ [];
    } ∷ [];
    texts = record { split = 0; documents = [] } ∷ record { split = 1; documents = [] } ∷ [];
    parts = 1;
    silence = 3;
    holder_limit = Eight;
  };
  limits = limits;
}

-- a wave starts the lesser split on the other worker, and numbers the attempts by rising split
abbrev pub two : Setup
two = two_with (record { events = 9; attempts = 9; sweeps = 0 })

abbrev pub wave : List (ℕ × ℕ)
wave = (0, 1) ∷ (1, 0) ∷ []

abbrev pub started : State
started = played two (Start wave ∷ [])

wave_splits : started.splits
    ≡ Running (record { number = 1; worker = 1 }) None ∷ Running (record { number = 2; worker = 0 }) None ∷ []
wave_splits = refl

wave_slots : map (λ worker. worker.taken) started.workers.each ≡ 1 ∷ 1 ∷ []
wave_slots = refl

wave_starts : started.starts
    ≡ record { work = works.Split 0; worker = 1 } ∷ record { work = works.Split 1; worker = 0 } ∷ []
wave_starts = refl

-- it is one event, of cost 20; by the nearest worker for each split in turn it would be 40
wave_is_one : started.events ≡ 1
wave_is_one = refl

wave_costs : total (problem_of two (opening two)) wave ≡ 20
wave_costs = refl

in_turn_costs : total (problem_of two (opening two)) ((0, 0) ∷ (1, 1) ∷ []) ≡ 40
in_turn_costs = refl

-- room for one event, one attempt and no sweep
abbrev pub small : Setup
small = two_with (record { events = 1; attempts = 1; sweeps = 0 })

full_answers : answers small (Start wave ∷ Ask (Sweep (1 ∷ 0 ∷ [])) ∷ Ask (Add 0 1) ∷ Ask
    (Lose 0 1) ∷ [])
    ≡ Some HistoryFull ∷ Some HistoryFull ∷ None ∷ Some HistoryFull ∷ []
full_answers = refl
