-- What a contract sees of a board, its maker, its seats and its readers.
use Rattle.std.specs.Prelude.{◌≡◌, ℕ, zero, suc, ◌≤◌, List, [], ◌∷◌, slice_index, if◌then◌else◌, ◌==◌}
use Rattle.std.specs.List.{sum_by, All}
use Rattle.atomic_table.specs.Seated.{TableId}
use Rattle.beat_board.specs.declared.view.Look.{Look}

-- which board it is, and how many workers it has
pub record BoardValue : Type 0 where
  pub board : TableId
  pub workers : ℕ

-- a maker: its board, and how many seats and readers it has made
pub record MakerValue : Type 0 where
  pub board : TableId
  pub seats : ℕ
  pub readers : ℕ

-- a seat: its board, its worker, how many beats it made, and what they were answered, the latest first
pub record SeatValue : Type 0 where
  pub board : TableId
  pub worker : ℕ
  pub beats : ℕ
  pub told : List ℕ

-- a reader: its board, and what it saw or was told of, the latest first
pub record ReaderValue : Type 0 where
  pub board : TableId
  pub looks : List Look

-- a number that was answered for a worker
abbrev pub look : ℕ → ℕ → Look
look w n = record { worker = w; beats = n }

-- what was last seen of a worker, 0 before the first look
abbrev pub last_seen : ℕ → List Look → ℕ
last_seen w [] = 0
last_seen w (x ∷ xs) = if x.worker == w then x.beats else last_seen w xs

-- no number that was seen is more than its worker's word
abbrev pub AreWithin : List ℕ → List Look → Type 0
AreWithin words xs = All (λ x. x.beats ≤ slice_index words x.worker) xs

-- the sum of the beats that the seats of a worker made
abbrev pub beats_by : ℕ → List SeatValue → ℕ
beats_by w seats = sum_by (λ s. if s.worker == w then s.beats else 0) seats

-- the numbers from n down to 1
abbrev pub down_from : ℕ → List ℕ
down_from zero = []
down_from (suc n) = suc n ∷ down_from n

-- what the seats of a worker were told, weighed
abbrev pub told_by : ℕ → (ℕ → ℕ) → List SeatValue → ℕ
told_by w weight seats = sum_by (λ s. if s.worker == w then sum_by weight s.told else 0) seats

-- the seats of a worker were told the numbers from 1 to n, each once; this is said for every weighing of
-- numbers
abbrev pub AreToldOnce : ℕ → ℕ → List SeatValue → Type 0
AreToldOnce w n seats = (weight : ℕ → ℕ) → told_by w weight seats ≡ sum_by weight (down_from n)
