-- How far apart two workers are by the places in which both stand, and that it is no further than the tree
-- reaches.
use Rattle.std.proofs.Common.{◌≡◌, ℕ, ◌<◌, ◌≤◌, Bool, List, get_or}
use Rattle.std.proofs.Common.{arith, All}
use Rattle.std.specs.Prelude.{◌==◌, if◌then◌else◌, slice_index}
use Rattle.std.proofs.lemmas.Bool.{cases_lt, lt-ltb, le-ltb}
use Rattle.std.proofs.lemmas.List.{get_or_past}
use Rattle.rack_tree.specs.Tree.{Tree, centre_at, distance, AreCentresKnown, IsWithinReach}

-- the steps between workers that are the same, or of one rack, or of one centre
abbrev pub steps_by : Bool → Bool → Bool → ℕ
steps_by same rack centre = if same then 0 else if rack then 2 else if centre then 4 else 6

-- two workers are as far apart as the first place in which they both stand says
pub distance_by : (tree : Tree) (h w : ℕ) → distance tree h w ≡ steps_by (h == w)
    (slice_index tree.rack_of h == slice_index tree.rack_of w) (centre_at tree h == centre_at tree w)
distance_by tree h w = grind arith

-- where there is one centre, every rack is read as standing in it
one_centre : (centres : ℕ) (centre_of : List ℕ) (r : ℕ) → centres ≤ 1 → All (λ c. c < centres) centre_of →
    get_or centre_of r 0 ≡ 0
one_centre centres centre_of r few known = grind (arith, cases_lt, get_or_past)

-- within a centre no two are further apart than 4
pub within_centre : (tree : Tree) (a b : ℕ) → centre_at tree a ≡ centre_at tree b → distance tree a b ≤ 4
within_centre tree a b same = grind arith

pub within_reach : (tree : Tree) → AreCentresKnown tree → IsWithinReach tree
within_reach tree known = grind (arith, cases_lt, lt-ltb, one_centre, le-ltb, within_centre)
