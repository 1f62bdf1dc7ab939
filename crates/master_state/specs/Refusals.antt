-- The calls of the master, and for each the reasons to ignore it, in the order in which they are tested.
use Rattle.std.specs.Prelude.{ℕ, ◌≡◌, ◌+◌, ◌<◌, ◌==◌, ◌&&◌, ◌||◌, nat_le, nat_lt, Bool, false, not}
use Rattle.std.specs.Prelude.{if◌then◌else◌, All, List, [], ◌∷◌, length, Option, Some, None, slice_index_or}
use Rattle.std.specs.List.{list_any, list_all}
use Rattle.word_map.specs.Texts.{SplitDocuments, same_text}
use Rattle.word_map.specs.Runs.{MapView}
use Rattle.shuffle_reduce.specs.Merged.{IsPartOf, PartView, same_texts}
use Rattle.worker_table.specs.Workers.{is_live, is_barred, has_free_slot, worker_at}
use Rattle.block_map.specs.Holdings.{holders_of, is_holder, are_full, has_full_among}
use Rattle.master_state.specs.declared.answers.Why.{Why}
use Rattle.master_state.specs.declared.answers.Why.TheVariants.{OldAttempt, DeadWorker, LiveWorker}
use Rattle.master_state.specs.declared.answers.Why.TheVariants.{AlreadyHolds, NotHolder, ManyHolders}
use Rattle.master_state.specs.declared.answers.Why.TheVariants.{NotReady, WrongInput, HistoryFull, NoBackup}
use Rattle.master_state.specs.declared.answers.Why.TheVariants.{Barred}
use Rattle.master_state.specs.declared.states.SplitState.{SplitState}
use Rattle.master_state.specs.declared.states.SplitState.TheVariants.{Running}
use Rattle.master_state.specs.States.{Setup, State}
use Rattle.master_state.specs.Tests.{is_on, runs, part_runs, is_pending, is_done, part_is_pending, split_at}
use Rattle.master_state.specs.Tests.{split_running, part_running}

-- what is asked of the master, but for a wave
pub data Call : Type 0 where
  MapDone : (attempt : ℕ) → (result : MapView) → Call
  MapFailed : (attempt : ℕ) → Call
  Withdraw : (attempt : ℕ) → Call
  Die : (worker : ℕ) → Call
  Join : (worker : ℕ) → (set : List ℕ) → Call
  Add : (split : ℕ) → (worker : ℕ) → Call
  Lose : (split : ℕ) → (worker : ℕ) → Call
  Sweep : (counts : List ℕ) → Call
  ReduceStart : Call
  PartDone : (attempt : ℕ) → (result : PartView) → Call
  PartFailed : (attempt : ℕ) → Call
  Backup : (split : ℕ) → (worker : ℕ) → Call

-- a split and a worker of the cluster
abbrev pub IsPair : Setup → ℕ → ℕ → Type 0
IsPair setup split w = (split < length setup.cluster.splits) × (w < length setup.cluster.slots)

-- what a call asks for: the cluster has its splits and workers, a sweep has a count for each worker,
-- and what was merged for a part has the pairs of its texts for that part
abbrev pub IsKnown : Setup → Call → Type 0
IsKnown setup (Die w) = w < length setup.cluster.slots
IsKnown setup (Join w set) =
    (w < length setup.cluster.slots) × All (λ split. split < length setup.cluster.splits) set
IsKnown setup (Add split w) = IsPair setup split w
IsKnown setup (Lose split w) = IsPair setup split w
IsKnown setup (Backup split w) = IsPair setup split w
IsKnown setup (Sweep counts) = length counts ≡ length setup.cluster.slots
IsKnown setup (PartDone a result) = IsPartOf result.texts result.part result.parts result.pairs
IsKnown setup call = Unit {0}

-- no place for an event is left
abbrev pub is_full : Setup → State → Bool
is_full setup s = nat_le setup.limits.events s.events

-- or none for the counts of a sweep
abbrev pub has_no_sweep : Setup → State → Bool
has_no_sweep setup s = is_full setup s || nat_le setup.limits.sweeps (length s.sweeps)

-- or not so many attempts
abbrev pub has_no_room : Setup → State → ℕ → Bool
has_no_room setup s count = is_full setup s || nat_lt setup.limits.attempts (length s.starts + count)

-- no split, and no part, runs the attempt a
abbrev pub no_split_runs : State → ℕ → Bool
no_split_runs s a = not (list_any (runs a) s.splits)

abbrev pub no_part_runs : State → ℕ → Bool
no_part_runs s a = not (list_any (part_runs a) s.parts)

-- the text of a split, by its place
abbrev pub split_text : Setup → ℕ → SplitDocuments
split_text setup split = slice_index_or setup.cluster.texts split (record { split = split; documents = [] })

-- the result is not of the split, its text and the number of parts
abbrev pub is_wrong_map : Setup → ℕ → MapView → Bool
is_wrong_map setup split result =
    not (same_text result.text (split_text setup split)) || not (result.parts == setup.cluster.parts)

-- the result is of another part or number of parts, or does not cover the cluster's texts
abbrev pub is_wrong_part : Setup → ℕ → PartView → Bool
is_wrong_part setup r result =
    not (result.part == r) || not (result.parts == setup.cluster.parts)
    || not (same_texts result.texts setup.cluster.texts)

-- a split is not done, or no part is pending, or no live worker has a free slot
abbrev pub is_not_reducible : State → Bool
is_not_reducible s =
    not (list_all is_done s.splits) || not (list_any part_is_pending s.parts)
    || not (list_any has_free_slot s.workers.each)

-- one attempt runs the split, and not on w
abbrev pub takes_backup : ℕ → SplitState → Bool
takes_backup w (Running attempt None) = not (is_on w attempt)
takes_backup w split = false

-- a split is pending, or this one has no live holder, or w has no free slot
abbrev pub is_not_backable : State → ℕ → ℕ → Bool
is_not_backable s split w =
    list_any is_pending s.splits || not (list_any (is_live s.workers) (holders_of s.holders split))
    || not (has_free_slot (worker_at s.workers w))

-- The reasons of each call. Want of memory, of a reduce start, is no matter of the state and is tested last.
abbrev pub reasons : Setup → State → Call → List (Bool × Why)
reasons setup s (MapDone a result) =
    (no_split_runs s a, OldAttempt)
    ∷ (is_wrong_map setup (split_running s a) result, WrongInput)
    ∷ (is_full setup s, HistoryFull) ∷ []
reasons setup s (MapFailed a) = (no_split_runs s a, OldAttempt) ∷ (is_full setup s, HistoryFull) ∷ []
reasons setup s (Withdraw a) =
    (no_split_runs s a && no_part_runs s a, OldAttempt) ∷ (is_full setup s, HistoryFull) ∷ []
reasons setup s (Die w) = (not (is_live s.workers w), DeadWorker) ∷ (is_full setup s, HistoryFull) ∷ []
reasons setup s (Join w set) =
    (is_live s.workers w, LiveWorker)
    ∷ (has_full_among setup.cluster.holder_limit s.holders set, ManyHolders)
    ∷ (is_full setup s, HistoryFull) ∷ []
reasons setup s (Add split w) =
    (not (is_live s.workers w), DeadWorker)
    ∷ (is_holder s.holders split w, AlreadyHolds)
    ∷ (are_full setup.cluster.holder_limit (holders_of s.holders split), ManyHolders)
    ∷ (is_full setup s, HistoryFull) ∷ []
reasons setup s (Lose split w) =
    (not (is_holder s.holders split w), NotHolder) ∷ (is_full setup s, HistoryFull) ∷ []
reasons setup s (Sweep counts) = (has_no_sweep setup s, HistoryFull) ∷ []
reasons setup s ReduceStart = (is_not_reducible s, NotReady) ∷ (has_no_room setup s 1, HistoryFull) ∷ []
reasons setup s (PartDone a result) =
    (no_part_runs s a, OldAttempt)
    ∷ (is_wrong_part setup (part_running s a) result, WrongInput)
    ∷ (is_full setup s, HistoryFull) ∷ []
reasons setup s (PartFailed a) = (no_part_runs s a, OldAttempt) ∷ (is_full setup s, HistoryFull) ∷ []
reasons setup s (Backup split w) =
    (not (is_live s.workers w), DeadWorker)
    ∷ (not (takes_backup w (split_at s split)), NoBackup)
    ∷ (is_not_backable s split w, NotReady)
    ∷ (is_barred s.workers split w, Barred)
    ∷ (has_no_room setup s 1, HistoryFull) ∷ []

-- the first reason whose test is true
abbrev pub first_true : List (Bool × Why) → Option Why
first_true [] = None
first_true (reason ∷ others) = if reason.0 then Some reason.1 else first_true others

-- why a call is ignored, if it is
abbrev pub refusal : Setup → State → Call → Option Why
refusal setup s call = first_true (reasons setup s call)
