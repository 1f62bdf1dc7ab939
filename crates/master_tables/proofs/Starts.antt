-- The starts of a plan, made one after another in the tables of a master.
use Rattle.std.proofs.Common.{◌≡◌, ℕ, ◌+◌, ◌<◌, List, [], ◌∷◌, ◌++◌, length, map, None, refl, sym}
use Rattle.std.proofs.Common.{arith, subst}
use Rattle.std.specs.Prelude.{slice_index_or}
use Rattle.std.proofs.lemmas.Grind.{common_steps}
use Rattle.node_ids.specs.Updates.{updated}
use Rattle.worker_table.specs.Workers.{Workers, free_slots, with_slot_taken}
use Rattle.block_map.specs.declared.HolderLimit.TheVariants.{Eight}
use Rattle.master_state.specs.declared.states.Start.{Start}
use Rattle.master_state.specs.declared.states.Work.TheVariants as works
use Rattle.master_state.specs.declared.states.SplitState.{SplitState}
use Rattle.master_state.specs.declared.states.SplitState.TheVariants as states
use Rattle.master_state.specs.States.{Setup, State}
use Rattle.master_state.specs.Changes.{split_started}
use Rattle.master_state.proofs.Slots.{live-inside}
use Rattle.master_state.proofs.Starting.{AreStarts, first_free, free_parts, starts_after, pending_started}
use Rattle.master_tables.specs.declared.entries.SplitEntry.{SplitEntry}
use Rattle.master_tables.specs.declared.entries.SplitEntry.TheVariants.{Running}
use Rattle.master_tables.specs.Entries.{shown_as}
use Rattle.master_tables.specs.Starting.{MayStart}
use Rattle.master_tables.proofs.Showing.{MakesNone, shown-updated}

-- tables as a state of which nothing else is read, and a job with so many attempts
abbrev state_with : Workers → List SplitState → List Start → State
state_with workers splits starts = record {
  workers = workers;
  holders = [];
  splits = splits;
  parts = [];
  starts = starts;
  sweeps = [];
  events = 0;
}

abbrev setup_with : ℕ → Setup
setup_with attempts = record {
  cluster = record {
    tree = record { centres = 0; centre_of = []; rack_of = [] };
    slots = [];
    splits = [];
    texts = [];
    parts = 0;
    silence = 0;
    holder_limit = Eight;
  };
  limits = record { events = 0; attempts = attempts; sweeps = 0 };
}

are_starts_of : (t : Workers) (splits : List SplitState) (starts : List Start) (pairs : List (ℕ × ℕ)) →
    MayStart t splits pairs →
    AreStarts (setup_with (length starts + length pairs)) (state_with t splits starts) pairs
are_starts_of t splits starts pairs may = grind arith

pub may_start_of : (setup : Setup) (s : State) (pairs : List (ℕ × ℕ)) → AreStarts setup s pairs →
    MayStart s.workers s.splits pairs
may_start_of setup s pairs starts = grind arith

-- the worker of the first start has a free slot
pub first_slot : (t : Workers) (splits : List SplitState) (k v : ℕ) (pairs : List (ℕ × ℕ)) →
    MayStart t splits ((k, v) ∷ pairs) → (v < length t.each) × (0 < free_slots t v)
first_slot t splits k v pairs may =
    let slot = free_parts t v
    (first_free (setup_with (0 + length ((k, v) ∷ pairs))) (state_with t splits []) k v pairs
    (are_starts_of t splits [] ((k, v) ∷ pairs) may)) in
    (live-inside t v slot.0, omega (arith, slot.1))

-- a split that runs an attempt by this number
abbrev pub run_by : ℕ → ℕ → SplitEntry
run_by number worker = Running (record { number = number; worker = worker }) None

-- the tables after the first start are those of the state after it
pub started_next : (s : State) (t next : Workers) (entries later : List SplitEntry) (starts told : List Start)
    (k v : ℕ) → slice_index_or (map shown_as entries) k states.Pending ≡ states.Pending →
    next ≡ with_slot_taken t v → later ≡ updated (λ _. run_by (length starts + 1) v) entries k →
    told ≡ starts ++ record { work = works.Split k; worker = v } ∷ [] →
    record s { workers = next; splits = map shown_as later; starts = told }
    ≡ split_started (record s { workers = t; splits = map shown_as entries; starts = starts }) k v
started_next s t next entries later starts told k v pending taken ran more =
    grind (arith, common_steps, shown-updated, pending_started)

-- and the others may start then
pub others_may_start : (t next : Workers) (entries later : List SplitEntry) (starts : List Start) (k v : ℕ)
    (pairs : List (ℕ × ℕ)) → MayStart t (map shown_as entries) ((k, v) ∷ pairs) →
    next ≡ with_slot_taken t v → later ≡ updated (λ _. run_by (length starts + 1) v) entries k →
    MayStart next (map shown_as later) pairs
others_may_start t next entries later starts k v pairs may taken ran =
    let s : State = state_with t (map shown_as entries) starts in
    let told : List Start = starts ++ record { work = works.Split k; worker = v } ∷ [] in
    let setup = setup_with (length starts + length ((k, v) ∷ pairs)) in
    let after = starts_after setup s k v pairs
    (are_starts_of t (map shown_as entries) starts ((k, v) ∷ pairs) may) in
    let same = started_next s t next entries later starts told k v (may.pending 0 (k, v) (omega arith)) taken
    ran refl in
    may_start_of setup (record s { workers = next; splits = map shown_as later; starts = told }) pairs
    (subst (λ (now : State). AreStarts setup now pairs) (sym same) after)

pub run_makes_none : (number worker : ℕ) → MakesNone (λ _. run_by number worker)
run_makes_none number worker entry attempt result made = cc
