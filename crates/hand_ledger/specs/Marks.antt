-- What has been found at each place.
use Rattle.std.specs.Prelude.{ℕ, ◌≡◌, ◌+◌, ◌<◌, ◌≤◌, ◌&&◌, nat_le, Bool, true, List, [], length, Option, Some}
use Rattle.std.specs.Prelude.{None, if◌then◌else◌, slice_index_or}
use Rattle.hand_ledger.specs.declared.marks.Found.{Found}
use Rattle.hand_ledger.specs.declared.marks.Found.TheVariants.{Nowhere, Once, Wrong}
use Rattle.hand_ledger.specs.declared.marks.TheConstants.{PLACES}
use Rattle.hand_ledger.specs.Hands.{Kept, HandValue}
use Rattle.hand_ledger.specs.Settling.{LogValue, at_place, call_at, AgreesAt}

-- what was found says how the calls at a place are, where these are wanted there
abbrev pub Describes : Found → List Kept → List Kept → Type 0
Describes Nowhere calls wanted = calls ≡ []
Describes Once calls wanted = (calls ≡ wanted) × (length wanted ≡ 1)
Describes Wrong calls wanted = (calls ≡ [] → ⊥) × (calls ≡ wanted → ⊥)

-- it does so at each place from the first on
abbrev pub Marks : LogValue → ℕ → List Kept → List Found → Type 0
Marks log first calls found = (n : ℕ) (d : Found) → n < PLACES →
    Describes (slice_index_or found n d) (at_place (first + n) calls) (call_at log (first + n))

-- one call more at a place, and whether it is the one that stands there
abbrev pub found_more : Found → Bool → Found
found_more Nowhere is_right = if is_right then Once else Wrong
found_more found is_right = Wrong

-- what is to be found at a place, where there are so many events
abbrev pub wanted : ℕ → ℕ → Found
wanted events place = if nat_le 1 place && nat_le place events then Once else Nowhere

-- it was found, and after the last event all notes are true
pub record IsAsWanted (events : ℕ) (notes : Bool) (found : Found) (place : ℕ) : Type 0 where
  pub seen : found ≡ wanted events place
  pub noted : place ≡ events + 1 → notes ≡ true

-- what was found at the n-th place after the first is right
abbrev pub IsRight : ℕ → Bool → ℕ → List Found → ℕ → Type 0
IsRight events notes first found n = (d : Found) → IsAsWanted events notes (slice_index_or found n d) (first + n)

-- the first such place at which it is not right, if there is one
abbrev pub IsFirstWrong : ℕ → Bool → ℕ → List Found → Option ℕ → Type 0
IsFirstWrong events notes first found None = (n : ℕ) → n < PLACES → IsRight events notes first found n
IsFirstWrong events notes first found (Some n) =
    (n < PLACES) × (IsRight events notes first found n → ⊥)
    × ((m : ℕ) → m < n → IsRight events notes first found m)

-- no call has a place past the last
abbrev pub AreNonePast : ℕ → List Kept → Type 0
AreNonePast last calls = (place : ℕ) → last < place → at_place place calls ≡ []

-- the lowest of these places that does not hold, counted from the first, if there is one
abbrev pub IsLowestFrom : LogValue → Bool → List HandValue → ℕ → Option ℕ → Type 0
IsLowestFrom log is_short hands first None = (n : ℕ) → n < PLACES → AgreesAt log is_short hands (first + n)
IsLowestFrom log is_short hands first (Some n) =
    (n < PLACES) × (AgreesAt log is_short hands (first + n) → ⊥)
    × ((m : ℕ) → m < n → AgreesAt log is_short hands (first + m))
