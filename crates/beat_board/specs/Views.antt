-- The kinds of view: what a seat, a reader and the maker know.
use Rattle.std.specs.Prelude.{ℕ, List, [], ◌∷◌}
use Rattle.beat_board.specs.declared.view.View.{View}
use Rattle.beat_board.specs.declared.view.Tally.{Tally}
use Rattle.beat_board.specs.declared.view.Look.{Look}

abbrev pub tally : ℕ → ℕ → List ℕ → Tally
tally w n told = record { worker = w; beats = n; told = told }

-- a seat of the worker w, with so many beats, and what they were answered
abbrev pub seated : ℕ → ℕ → List ℕ → View
seated w n told = record { tallies = tally w n told ∷ []; looks = []; next = 0; made = 0 }

-- a reader, with what it saw
abbrev pub reading : List Look → View
reading xs = record { tallies = []; looks = xs; next = 0; made = 0 }

-- the maker, with the counts of the seats and the looks of the readers that came back, the worker whose
-- seat is next, and how many seats it made
abbrev pub making : List Tally → List Look → ℕ → ℕ → View
making ts xs next made = record { tallies = ts; looks = xs; next = next; made = made }

-- a seat or a reader that came back
abbrev pub spent : View
spent = record { tallies = []; looks = []; next = 0; made = 0 }

-- what the one seat of a view was told
abbrev pub answers : List Tally → List ℕ
answers [] = []
answers (t ∷ ts) = t.told
