-- The rule of a board: each word is the sum of the counts over the list of views.
use Rattle.std.specs.Prelude.{◌≡◌, ℕ, ◌<◌, ◌≤◌, ◌^◌, List, length, slice_index, if◌then◌else◌, ◌==◌}
use Rattle.std.specs.List.{sum_by, All}
use mathlib.Core.Option.{some}
use lib.ListN.{get_elem?}
use Rattle.atomic_table.specs.Table.{State}
use Rattle.beat_board.specs.declared.view.View.{View}
use Rattle.beat_board.specs.declared.view.Tally.{Tally}
use Rattle.beat_board.specs.Values.{AreWithin, down_from}

-- the sum of the counts of a worker
abbrev pub beats_of : ℕ → List Tally → ℕ
beats_of w ts = sum_by (λ t. if t.worker == w then t.beats else 0) ts

-- what the seats of a worker were told, weighed
abbrev pub told_of : ℕ → (ℕ → ℕ) → List Tally → ℕ
told_of w weight ts = sum_by (λ t. if t.worker == w then sum_by weight t.told else 0) ts

abbrev pub seats_in : View → ℕ
seats_in v = length v.tallies

-- each count is at most 2 ^ 40, and each number that was told or seen is at most its word
pub record Fits (words : List ℕ) (v : View) : Type 0 where
  pub small : All (λ t. t.beats ≤ 2 ^ 40) v.tallies
  pub told : All (λ t. All (λ n. n ≤ slice_index words t.worker) t.told) v.tallies
  pub seen : AreWithin words v.looks

-- the first view is the maker's, which knows how many seats were made; a worker's beats are told the
-- numbers up to its word, each once
pub record AreCounted (words : List ℕ) (views : List View) : Type 0 where
  pub width : length words ≡ 1024
  pub sums : (w : ℕ) → w < length words → slice_index words w ≡ sum_by (λ v. beats_of w v.tallies) views
  pub told : (w : ℕ) → w < length words → (weight : ℕ → ℕ)
      → sum_by (λ v. told_of w weight v.tallies) views ≡ sum_by weight (down_from (slice_index words w))
  pub made : (v : View) → get_elem? views 0 ≡ some v → sum_by seats_in views ≡ v.made
  pub limit : sum_by seats_in views ≤ 4096
  pub each : (id : ℕ) (v : View) → get_elem? views id ≡ some v → Fits words v

abbrev pub Rule : State ℕ View → Type 0
Rule s = AreCounted s.words s.views
