-- What the calling thread knows of the workers: what they hold, and which are dead or stopped.
use Rattle.std.specs.Prelude.{ℕ, ◌+◌, ◌-◌, ◌^◌, ◌<◌, ◌↔◌, ◌&&◌, nat_lt, not, zero, suc, min, replicate, Bool}
use Rattle.std.specs.Prelude.{true, false, List, [], ◌∷◌, ◌++◌, Option, Some, None, length, slice_index}
use Rattle.std.specs.Prelude.{slice_index_or, count_by, slice_get, slice_set, IsTrue}
use Rattle.std.specs.List.{fold}
use Rattle.node_ids.specs.Sets.{emptied, has_number, is_in_row, no_numbers, with_number}
use Rattle.wave_problem.specs.Wave.{Split}
use Rattle.master_state.specs.States.{Cluster}
use Rattle.job_threads.specs.declared.holdings.Holding.{Holding}

-- a worker that holds a split more
abbrev pub holding_too : ℕ → Holding → Holding
holding_too split h = record h { held = with_number h.held split }

-- one that died, when so many of its beats were seen; its two tables change places
abbrev pub buried : ℕ → Holding → Holding
buried seen h = record h { held = emptied h.lost; lost = h.held; seen = seen; is_dead = true }

-- a table with all these splits in it too
abbrev pub with_all : List ℕ → List ℕ → List ℕ
with_all words splits = fold with_number words splits

-- one that is back with these splits
abbrev pub back_with : List ℕ → Holding → Holding
back_with set h = record h { held = with_all (emptied h.held) set; is_dead = false }

-- one that was stopped
abbrev pub stopped : Holding → Holding
stopped h = record h { is_stopped = true }

-- the list after a change of the element at a place, if there is one
abbrev pub changed_in : {X : Type 0} → (X → X) → List X → ℕ → Option X → List X
changed_in change xs n (Some x) = slice_set xs n (change x)
changed_in change xs n None = xs

abbrev pub changed_at : {X : Type 0} → (X → X) → List X → ℕ → List X
changed_at change xs n = changed_in change xs n (slice_get xs n)

-- the first n of these workers hold the split too
abbrev pub held_too : ℕ → ℕ → List ℕ → List Holding → List Holding
held_too split zero holders workers = workers
held_too split (suc n) holders workers =
    changed_at (holding_too split) (held_too split n holders workers) (slice_index holders n)

-- the holders of the first n splits hold them
abbrev pub all_held : ℕ → List Split → List Holding → List Holding
all_held zero splits workers = workers
all_held (suc n) splits workers =
    let holders = (slice_index_or splits n (record { bytes = 0; pending = false; holders = [] })).holders in
    held_too n (length holders) holders (all_held n splits workers)

-- the first n of the dead died, when so many of their beats were told
unfoldable pub all_buried : List ℕ → List ℕ → ℕ → List Holding → List Holding
all_buried dead told zero workers = workers
all_buried dead told (suc n) workers =
    let w = slice_index dead n in
    changed_at (buried (slice_index told w)) (all_buried dead told n workers) w

-- how many deaths were seen after so many more; they stay at the greatest number that a u32 has
abbrev pub deaths_after : ℕ → ℕ → ℕ
deaths_after deaths more = min (deaths + more) (2 ^ 32 - 1)

-- the numbers below n, the lowest first
unfoldable pub upto : ℕ → List ℕ
upto zero = []
upto (suc n) = upto n ++ n ∷ []

-- a worker that holds nothing, of so many splits
abbrev pub empty_handed : ℕ → Holding
empty_handed splits = record {
  held = no_numbers splits;
  lost = no_numbers splits;
  seen = 0;
  is_dead = false;
  is_stopped = false;
}

-- each worker holds at first the splits of which it is a holder
abbrev pub opened : Cluster → List Holding
opened cluster =
    all_held (length cluster.splits) cluster.splits
    (replicate (length cluster.slots) (empty_handed (length cluster.splits)))

-- it is dead, was not stopped, and more of its beats are seen than when it died
abbrev pub has_risen : ℕ → Option Holding → Bool
has_risen seen (Some h) = h.is_dead && (not h.is_stopped && nat_lt h.seen seen)
has_risen seen None = false

-- how many workers hold the split
abbrev pub holders_of : ℕ → List Holding → ℕ
holders_of split workers = count_by (λ h. has_number h.held split) workers

-- whether a worker joins again with a split: with each split that it held when it died and that has fewer
-- than eight holders now
abbrev pub may_return : List Holding → Option Holding → ℕ → Bool
may_return workers (Some h) split = has_number h.lost split && nat_lt (holders_of split workers) 8
may_return workers None split = false

abbrev pub AreReturning : List Holding → ℕ → Option Holding → List ℕ → Type 0
AreReturning workers splits h set =
    (split : ℕ) → IsTrue (is_in_row set split) ↔ ((split < splits) × IsTrue (may_return workers h split))
