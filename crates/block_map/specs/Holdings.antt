-- The holders of each split, in the order in which they were added.
use Rattle.std.specs.Prelude.{ℕ, ◌==◌, Bool, not, nat_le, if◌then◌else◌, List, [], ◌∷◌, ◌++◌, length}
use Rattle.std.specs.Prelude.{map, filter, slice_index_or}
use Rattle.std.specs.List.{list_any, enumerate_from}
use Rattle.node_ids.specs.Sets.{is_in_row}
use Rattle.node_ids.specs.Updates.{updated}
use Rattle.block_map.specs.declared.HolderLimit.{HolderLimit}
use Rattle.block_map.specs.declared.HolderLimit.TheVariants.{Eight, Sixteen}

-- the holders of the split s; one past the last has none
abbrev pub holders_of : List (List ℕ) → ℕ → List ℕ
holders_of lists s = slice_index_or lists s []

abbrev pub is_holder : List (List ℕ) → ℕ → ℕ → Bool
is_holder lists s w = list_any (λ h. h == w) (holders_of lists s)

-- to how many holders a split may grow
abbrev pub most_holders : HolderLimit → ℕ
most_holders Eight = 8
most_holders Sixteen = 16

-- so many holders, or more
abbrev pub are_full : HolderLimit → List ℕ → Bool
are_full limit holders = nat_le (most_holders limit) (length holders)

-- a split of the set has so many
abbrev pub has_full_among : HolderLimit → List (List ℕ) → List ℕ → Bool
has_full_among limit lists set =
    list_any (λ split. are_full limit (holders_of lists split)) set

-- every entry of the worker taken out, the order of the others kept
abbrev pub without : ℕ → List ℕ → List ℕ
without w holders = filter (λ h. not (h == w)) holders

-- the worker is the last holder of s
abbrev pub with_holder : List (List ℕ) → ℕ → ℕ → List (List ℕ)
with_holder lists s w = updated (λ holders. holders ++ w ∷ []) lists s

-- the worker is the last holder of each split of the set
abbrev pub with_holder_of_all : List (List ℕ) → List ℕ → ℕ → List (List ℕ)
with_holder_of_all lists set w =
    map (λ place. if is_in_row set place.0 then place.1 ++ w ∷ [] else place.1) (enumerate_from 0 lists)

abbrev pub without_holder : List (List ℕ) → ℕ → ℕ → List (List ℕ)
without_holder lists s w = updated (without w) lists s

-- the worker holds nothing
abbrev pub without_worker : List (List ℕ) → ℕ → List (List ℕ)
without_worker lists w = map (without w) lists
