-- The kinds of step, and what each tells who makes it.
use Rattle.std.specs.Prelude.{◌≡◌, ℕ, ◌+◌, ◌≤◌, ◌^◌, List, [], ◌∷◌, ◌++◌, map}
use Rattle.std.specs.List.{sum_by, All}
use Rattle.atomic_table.specs.Table.{Me, Step}
use Rattle.beat_board.specs.declared.view.View.{View}
use Rattle.beat_board.specs.declared.view.Tally.{Tally}
use Rattle.beat_board.specs.declared.view.Look.{Look}
use Rattle.beat_board.specs.Values.{look}
use Rattle.beat_board.specs.Views.{tally, reading, making}

-- a seat with one beat more, which was told the word
abbrev pub raised : ℕ → View → View
raised word v = record v { tallies = map (λ t. tally t.worker (t.beats + 1) (word ∷ t.told)) v.tallies }

-- a beat finds a word that has all the seat's beats so far, and is no less than all that it was told
abbrev pub Beats : Step ℕ → Me ℕ View → ℕ → Me ℕ View → Type 0
Beats s m n m' =
    (m'.0 ≡ raised (n + 1) m.0) × (m'.1 ≡ m.1) × (sum_by (λ t. t.beats) m.0.tallies ≤ n)
    × All (λ t. All (λ k. k ≤ n) t.told) m.0.tallies × (n ≤ 2 ^ 52)

-- a look finds at least what was seen of the worker
abbrev pub Looks : Step ℕ → Me ℕ View → ℕ → Me ℕ View → Type 0
Looks s m n m' =
    (m'.0 ≡ reading (look s.word n ∷ m.0.looks)) × (m'.1 ≡ m.1)
    × All (λ x. x.worker ≡ s.word → x.beats ≤ n) m.0.looks

-- the maker turns to a worker, whose seat it makes next
abbrev pub Turns : Step ℕ → Me ℕ View → ℕ → Me ℕ View → Type 0
Turns s m n m' = (m'.0 ≡ making m.0.tallies m.0.looks s.word m.0.made) × (m'.1 ≡ m.1)

-- the maker has made one seat more
abbrev pub more : View → View
more v = making v.tallies v.looks v.next (v.made + 1)

-- what a seat was told, as numbers that were seen
abbrev pub shown : List Tally → List Look
shown [] = []
shown (t ∷ ts) = map (λ n. look t.worker n) t.told

-- a view takes in the counts and the looks of another
abbrev pub gathers : View → View → View
gathers v w = making (v.tallies ++ w.tallies) (w.looks ++ v.looks) v.next v.made
