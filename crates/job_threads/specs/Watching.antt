-- What the calling thread sees of the workers' beats.
use Rattle.std.specs.Prelude.{ℕ, ◌≡◌, ◌<◌, ◌≤◌, Bool, false, List, Option, Some, None, length, slice_get}
use Rattle.std.specs.Prelude.{slice_index}
use Rattle.beat_board.specs.declared.view.Look.{Look}
use Rattle.beat_board.specs.Values.{ReaderValue, last_seen}
use Rattle.job_threads.specs.declared.holdings.Holding.{Holding}

-- what was seen of a board, and the count of each worker that was handed in last
pub record WatchValue : Type 0 where
  pub reader : ReaderValue
  pub told : List ℕ

-- After a look at each worker: its count is what was last seen of it, and did not fall.
pub record AreLooks (old new : WatchValue) : Type 0 where
  pub size : length new.told ≡ length old.told
  pub seen : (w : ℕ) → w < length new.told → slice_index new.told w ≡ last_seen w new.reader.looks
  pub rising : (w : ℕ) → w < length new.told → last_seen w old.reader.looks ≤ slice_index new.told w

-- whether the worker was stopped; one that is not known was not
abbrev pub is_stopped_in : Option Holding → Bool
is_stopped_in (Some h) = h.is_stopped
is_stopped_in None = false

-- of each of the first n workers that was not stopped more beats were seen than were handed in last
abbrev pub HaveFirstBeaten : ℕ → List ℕ → List Look → List Holding → Type 0
HaveFirstBeaten n told looks workers =
    (w : ℕ) → w < n → is_stopped_in (slice_get workers w) ≡ false → slice_index told w < last_seen w looks

-- and of each worker that was not stopped
abbrev pub HaveBeaten : WatchValue → List Holding → Type 0
HaveBeaten watch workers = HaveFirstBeaten (length watch.told) watch.told watch.reader.looks workers
