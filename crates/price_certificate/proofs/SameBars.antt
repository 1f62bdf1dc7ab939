-- Claims that differ only in how the set of barred pairs is kept hold and fail alike.
use Rattle.std.proofs.Common.{ℕ, List, ◌≡◌, arith}
use Rattle.std.specs.Prelude.{◌↔◌}
use Rattle.node_ids.specs.Sets.{HasPair}
use Rattle.price_certificate.specs.Certificate.{Certifies, Claim, Holds, IsFirstFailure}
use Rattle.price_certificate.specs.declared.Condition.{Condition}
use Rattle.price_certificate.specs.declared.Condition.TheVariants.{Allowed, Priced}
use Rattle.price_certificate.proofs.Order.{first_failure-unique}

-- the sets have the same pairs
abbrev pub HaveSamePairs : List (List ℕ) → List (List ℕ) → Type 0
HaveSamePairs x y = (s w : ℕ) → HasPair x s w ↔ HasPair y s w

pub have_same_pairs-sym : (x y : List (List ℕ)) → HaveSamePairs x y → HaveSamePairs y x
have_same_pairs-sym x y same s w = ((same s w).1, (same s w).0)

-- the claim with this set of barred pairs
abbrev pub barring : Claim → List (List ℕ) → Claim
barring c barred = record c { wave = record c.wave { barred = barred } }

holds-same : (c : Claim) (x y : List (List ℕ)) → HaveSamePairs x y → (d : Condition) → Holds (barring c x) d
    → Holds (barring c y) d
holds-same c x y same (Allowed s w) h = λ start.
    let may = h start in (may.0, λ bars. may.1 ((same s w).1 bars))
holds-same c x y same (Priced s w) h = λ may. h (record {
  pending = may.pending;
  held = may.held;
  live = may.live;
  has_slot = may.has_slot;
  not_barred = λ bars. may.not_barred ((same s w).0 bars);
})
holds-same c x y same d h = h

first_failure-same : (c : Claim) (x y : List (List ℕ)) → HaveSamePairs x y → (d : Condition)
    → IsFirstFailure (barring c x) d → IsFirstFailure (barring c y) d
first_failure-same c x y same d first = grind (arith, holds-same, have_same_pairs-sym)

-- the same condition is the first that fails
pub first_failures-equal : (c : Claim) (x y : List (List ℕ)) → HaveSamePairs x y → (d e : Condition)
    → IsFirstFailure (barring c x) d → IsFirstFailure (barring c y) e → d ≡ e
first_failures-equal c x y same d e p q =
    first_failure-unique (barring c y) d e (first_failure-same c x y same d p) q

-- no condition fails where prices certify
pub certified-faultless : (c : Claim) (x y : List (List ℕ)) → HaveSamePairs x y → (d : Condition)
    → Certifies (barring c x) → IsFirstFailure (barring c y) d → ⊥
certified-faultless c x y same d certifies first = first.fails (holds-same c x y same d (certifies d))
