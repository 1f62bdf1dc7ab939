-- The counts of sweeps, each by its base and its rises, and what a list of them keeps.
use Rattle.std.specs.Prelude.{ℕ, ◌≡◌, ◌+◌, ◌-◌, ◌%◌, ◌^◌, ◌<◌, ◌≤◌, All, List, [], ◌∷◌, ◌++◌, length}
use Rattle.std.specs.Prelude.{slice_index, slice_index_or, vec_capacity}
use Rattle.compact_lists.specs.declared.counts.CountList.TheInside.{Inside}
use Rattle.compact_lists.specs.Lists.{CountsValue}

-- each count of a base with its rise
abbrev pub counts_from : List ℕ → List ℕ → List ℕ
counts_from [] rises = []
counts_from (count ∷ base) [] = []
counts_from (count ∷ base) (rise ∷ rises) = (count + rise) % 2 ^ 64 ∷ counts_from base rises

-- 16 bits tell of each count how much it is above the base's
abbrev pub AreNear : List ℕ → List ℕ → Type 0
AreNear base counts =
    (i : ℕ) → i < length counts →
    (slice_index base i ≤ slice_index counts i) × (slice_index counts i - slice_index base i < 65536)

-- how much each count is above the base's
abbrev pub rises_over : List ℕ → List ℕ → List ℕ
rises_over [] counts = []
rises_over (low ∷ base) [] = []
rises_over (low ∷ base) (count ∷ counts) = (count - low) ∷ rises_over base counts

-- the counts of sweeps, of each by the number of its base and its rises
abbrev pub counts_over : List (List ℕ) → List ℕ → List (List ℕ) → List (List ℕ)
counts_over bases [] rises = []
counts_over bases (base ∷ others) [] = []
counts_over bases (base ∷ others) (own ∷ rises) =
    counts_from (slice_index_or bases base []) own ∷ counts_over bases others rises

-- a list is another one, with at most one element more at its end
abbrev pub GoesOnByOne : List (List ℕ) → List (List ℕ) → Type 0
GoesOnByOne old new = (more : List (List ℕ)) × (new ≡ old ++ more) × (length more ≤ 1)

abbrev pub all_counts : Inside → CountsValue
all_counts l = record {
  items = counts_over l.bases.rows l.bases_of.items l.rises.rows;
  room = l.bases.room;
  workers = l.bases.width;
}

-- Each sweep has rises, and a base that is there. There are no more bases than sweeps, and each list has the
-- room.
pub record IsCountList (l : Inside) : Type 0 where
  pub within : All (λ base. base < length l.bases.rows) l.bases_of.items
  pub rises : length l.rises.rows ≡ length l.bases_of.items
  pub few : length l.bases_of.items ≤ l.bases.room
  pub few_bases : length l.bases.rows ≤ length l.bases_of.items
  pub room : l.bases.room ≤ vec_capacity l.bases_of
  pub same_room : l.rises.room ≡ l.bases.room
  pub same_width : l.rises.width ≡ l.bases.width
  pub few_workers : l.bases.width < 2 ^ 32
