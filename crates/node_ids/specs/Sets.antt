-- Sets of numbers, as tables of bits in words of 64 or as rows, and sets of pairs of a split and a worker.
use Rattle.std.specs.Prelude.{ℕ, ◌+◌, ◌*◌, ◌/◌, ◌%◌, ◌^◌, ◌==◌, Bool, IsTrue, List, [], ◌∷◌}
use Rattle.std.specs.Prelude.{length, replicate, slice_index, slice_set, slice_index_or}
use Rattle.std.specs.Prelude.{if◌then◌else◌, nat_lt}
use Rattle.std.specs.List.{fold, list_any}
use Rattle.std.specs.Int.{bit_at}
use Rattle.std.specs.Int.RustNames.{bit_or}
use Rattle.node_ids.specs.Updates.{updated}

-- whether n is in the set that the words keep
abbrev pub has_number : List ℕ → ℕ → Bool
has_number words n = bit_at (slice_index words (n / 64)) (n % 64) == 1

-- n is in the set
abbrev pub Has : List ℕ → ℕ → Type 0
Has words n = IsTrue (has_number words n)

-- the set with n in it too
abbrev pub with_number : List ℕ → ℕ → List ℕ
with_number words n =
    slice_set words (n / 64) (bit_or (slice_index words (n / 64)) (1 * 2 ^ (n % 64) % 2 ^ 64))

-- no number below so many
abbrev pub no_numbers : ℕ → List ℕ
no_numbers n = replicate ((n + 63) / 64) 0

-- the same words, without a number
abbrev pub emptied : List ℕ → List ℕ
emptied words = replicate (length words) 0

-- ---- sets as rows: the numbers of the members, rising

-- whether n is in the row
abbrev pub is_in_row : List ℕ → ℕ → Bool
is_in_row row n = list_any (λ m. m == n) row

-- a row with n in it too
abbrev pub row_with : ℕ → List ℕ → List ℕ
row_with n [] = n ∷ []
row_with n (m ∷ row) =
    if nat_lt n m then n ∷ m ∷ row else (if n == m then m ∷ row else m ∷ row_with n row)

-- the row of all these numbers
abbrev pub row_of_all : List ℕ → List ℕ
row_of_all numbers = fold (λ row n. row_with n row) [] numbers

-- ---- pairs, in a row for each split: the workers of its pairs

-- whether the pair (s, w) is in the set
abbrev pub has_pair : List (List ℕ) → ℕ → ℕ → Bool
has_pair rows s w = is_in_row (slice_index_or rows s []) w

-- the pair (s, w) is in the set
abbrev pub HasPair : List (List ℕ) → ℕ → ℕ → Type 0
HasPair rows s w = IsTrue (has_pair rows s w)

-- the set with the pair (s, w) in it too
abbrev pub with_pair : List (List ℕ) → ℕ → ℕ → List (List ℕ)
with_pair rows s w = updated (row_with w) rows s

-- of so many splits
abbrev pub no_pairs : ℕ → List (List ℕ)
no_pairs splits = replicate splits []
