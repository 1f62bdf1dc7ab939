-- How counts read over bases that go on, and how they are made one by one.
use Rattle.std.proofs.Common.{[], ◌≡◌, ℕ, zero, suc, ◌+◌, ◌-◌, ◌%◌, ◌^◌, ◌<◌, List, ◌∷◌, ◌++◌, length}
use Rattle.std.proofs.Common.{All, take, get_or, slice_get, slice_index_or, Some, refl, ap, ◌∙◌, arith}
use Rattle.std.proofs.Math.Nat.{mod-eq_of_lt}
use Rattle.std.proofs.lemmas.List.{get_or_append_left}
use Rattle.std.proofs.lemmas.List.Elements.{All-head, All-tail}
use Rattle.std.proofs.lemmas.Option.{none-some, same_Some}
use Rattle.compact_lists.specs.Counts.{AreNear, counts_from, counts_over, rises_over}

pub length-over : (bases : List (List ℕ)) (numbers : List ℕ) (rises : List (List ℕ)) →
    length rises ≡ length numbers → length (counts_over bases numbers rises) ≡ length numbers
length-over bases [] rises same = refl
length-over bases (base ∷ numbers) [] same = absurd (omega arith)
length-over bases (base ∷ numbers) (own ∷ rises) same = ap suc (length-over bases numbers rises (omega arith))

-- the counts of the sweep at an index
pub over_get : (bases : List (List ℕ)) (numbers : List ℕ) (rises : List (List ℕ)) (i n : ℕ) (own : List ℕ) →
    slice_get numbers i ≡ Some n → slice_get rises i ≡ Some own →
    slice_get (counts_over bases numbers rises) i ≡ Some (counts_from (slice_index_or bases n []) own)
over_get bases [] rises i n own base is = absurd (none-some n base)
over_get bases (base ∷ numbers) [] i n own at is = absurd (none-some own is)
over_get bases (base ∷ numbers) (first ∷ rises) zero n own at is =
    let same : base ≡ n = same_Some base n at in
    let rise : first ≡ own = same_Some first own is in
    λ k. Some (counts_from (slice_index_or bases (same k) []) (rise k))
over_get bases (base ∷ numbers) (first ∷ rises) (suc i) n own at is =
    over_get bases numbers rises i n own at is

-- the counts are the same where bases go on
pub over_same : (bases more : List (List ℕ)) (numbers : List ℕ) (rises : List (List ℕ)) →
    All (λ n. n < length bases) numbers →
    counts_over (bases ++ more) numbers rises ≡ counts_over bases numbers rises
over_same bases more [] rises all = refl
over_same bases more (n ∷ numbers) [] all = refl
over_same bases more (n ∷ numbers) (own ∷ rises) all =
    let Within : ℕ → Type 0 = λ n. n < length bases in
    let first : slice_index_or (bases ++ more) n [] ≡ slice_index_or bases n [] =
    get_or_append_left bases more [] n (All-head Within n numbers all) in
    let others = over_same bases more numbers rises (All-tail Within n numbers all) in
    λ k. counts_from (first k) own ∷ others k

-- a sweep more
pub over_more : (bases : List (List ℕ)) (numbers : List ℕ) (rises : List (List ℕ)) (n : ℕ) (own : List ℕ) →
    length rises ≡ length numbers →
    counts_over bases (numbers ++ n ∷ []) (rises ++ own ∷ [])
    ≡ counts_over bases numbers rises ++ counts_from (slice_index_or bases n []) own ∷ []
over_more bases [] [] n own same = refl
over_more bases [] (first ∷ rises) n own same = absurd (omega arith)
over_more bases (base ∷ numbers) [] n own same = absurd (omega arith)
over_more bases (base ∷ numbers) (first ∷ rises) n own same =
    ap (λ rest. counts_from (slice_index_or bases base []) first ∷ rest)
    (over_more bases numbers rises n own (omega arith))

-- each count, and how many there are
pub from_at : (base rises : List ℕ) (i c d : ℕ) → length base ≡ length rises → i < length base →
    get_or (counts_from base rises) i 0 ≡ (get_or base i c + get_or rises i d) % 2 ^ 64
from_at [] rises i c d same less = absurd (omega arith)
from_at (b ∷ base) [] i c d same less = absurd (omega arith)
from_at (b ∷ base) (r ∷ rises) zero c d same less = refl
from_at (b ∷ base) (r ∷ rises) (suc i) c d same less = from_at base rises i c d (omega arith) (omega arith)

pub length-from : (base rises : List ℕ) → length base ≡ length rises →
    length (counts_from base rises) ≡ length base
length-from [] rises same = refl
length-from (b ∷ base) [] same = absurd (omega arith)
length-from (b ∷ base) (r ∷ rises) same = ap suc (length-from base rises (omega arith))

pub length-rises : (base counts : List ℕ) → length base ≡ length counts →
    length (rises_over base counts) ≡ length counts
length-rises [] [] same = refl
length-rises [] (c ∷ counts) same = absurd (omega arith)
length-rises (b ∷ base) [] same = absurd (omega arith)
length-rises (b ∷ base) (c ∷ counts) same = ap suc (length-rises base counts (omega arith))

-- the rises lead back to the counts
pub from_rises : (base counts : List ℕ) → length base ≡ length counts → All (λ c. c < 2 ^ 64) counts →
    AreNear base counts → counts_from base (rises_over base counts) ≡ counts
from_rises [] [] same all near = refl
from_rises [] (c ∷ counts) same all near = absurd (omega arith)
from_rises (b ∷ base) [] same all near = absurd (omega arith)
from_rises (b ∷ base) (c ∷ counts) same all near =
    let Fits : ℕ → Type 0 = λ c. c < 2 ^ 64 in
    let sum : b + (c - b) ≡ c = omega (arith, (near 0 (omega arith)).0) in
    let first : (b + (c - b)) % 2 ^ 64 ≡ c =
    ap (λ n. n % 2 ^ 64) sum ∙ mod-eq_of_lt (All-head Fits c counts all) in
    let others = from_rises base counts (omega arith) (All-tail Fits c counts all)
    (λ i less. near (suc i) (omega (arith, less))) in
    λ k. first k ∷ others k

-- a rise more
pub rises_more : (base counts : List ℕ) (i : ℕ) → i < length base → i < length counts →
    rises_over (take (i + 1) base) (take (i + 1) counts)
    ≡ rises_over (take i base) (take i counts) ++ (get_or counts i 0 - get_or base i 0) ∷ []
rises_more [] counts i in_base in_counts = absurd (omega arith)
rises_more (b ∷ base) [] i in_base in_counts = absurd (omega arith)
rises_more (b ∷ base) (c ∷ counts) zero in_base in_counts = refl
rises_more (b ∷ base) (c ∷ counts) (suc i) in_base in_counts =
    let next : suc i + 1 ≡ suc (i + 1) = omega arith in
    rw next (ap (λ rises. (c - b) ∷ rises) (rises_more base counts i (omega arith) (omega arith)))
