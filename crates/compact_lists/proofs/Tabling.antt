-- Rows that are cut from one list: their number, each of them, and one more.
use Rattle.std.proofs.Common.{◌≡◌, ℕ, zero, suc, ◌+◌, ◌-◌, ◌*◌, ◌<◌, ◌≤◌, ◌^◌, List, [], ◌∷◌, ◌++◌, length}
use Rattle.std.proofs.Common.{take, drop, Some, slice_get, refl, sym, ap, ◌∙◌, arith}
use Rattle.std.proofs.Math.Nat.{add_comm, mul-le-mul_right, suc-mul, zero-mul}
use Rattle.std.proofs.lemmas.List.{drop-append-le, drop-drop, length-drop, take-append-le, take_all}
use Rattle.std.proofs.lemmas.Nat.{mul-le}
use Rattle.compact_lists.specs.Rows.{cut_rows}

pub length-cut : {X : Type 0} (width n : ℕ) (items : List X) → length (cut_rows width n items) ≡ n
length-cut width zero items = refl
length-cut width (suc n) items = ap suc (length-cut width n (drop width items))

-- a row lies within the list
pub row_within : (width n i : ℕ) → i < n → i * width + width ≤ n * width
row_within width n i less =
    let next : suc i * width ≤ n * width = mul-le-mul_right width (omega (arith, less)) in
    omega (arith, next, suc-mul i width)

-- what so few rows of so few elements come to
pub few_elements : (width n : ℕ) → n < 2 ^ 32 → width < 2 ^ 32 → n * width < 2 ^ 64
few_elements width n few narrow =
    omega (arith, mul-le n width (2 ^ 32) (2 ^ 32 - 1) (omega (arith, few)) (omega (arith, narrow)))

pub cut_get : {X : Type 0} (width n i : ℕ) (items : List X) → i < n →
    slice_get (cut_rows width n items) i ≡ Some (take width (drop (i * width) items))
cut_get width zero i items less = absurd (omega arith)
cut_get width (suc n) zero items less = ap (λ k. Some (take width (drop k items))) (sym (zero-mul width))
cut_get width (suc n) (suc i) items less =
    let next : suc i * width ≡ width + i * width = suc-mul i width ∙ add_comm (i * width) width in
    cut_get width n i (drop width items) (omega arith)
    ∙ ap (λ rest. Some (take width rest))
    (drop-drop (i * width) width items ∙ ap (λ k. drop k items) (sym next))

pub cut_more : {X : Type 0} (width n : ℕ) (items row : List X) → length items ≡ n * width →
    length row ≡ width →
    cut_rows width (n + 1) (items ++ row) ≡ cut_rows width n items ++ row ∷ []
cut_more width zero [] row is wide = ap (λ r. r ∷ []) (take_all width row (omega arith))
cut_more width zero (x ∷ items) row is wide = absurd (omega arith)
cut_more width (suc n) items row is wide =
    let within : width ≤ length items = omega (arith, is, suc-mul n width) in
    let rest : length (drop width items) ≡ n * width =
    omega (arith, is, suc-mul n width, length-drop width items) in
    let first = take-append-le width items row within in
    let others = ap (cut_rows width (n + 1)) (drop-append-le width items row within)
    ∙ cut_more width n (drop width items) row rest wide in
    let next : suc n + 1 ≡ suc (n + 1) = omega arith in
    ap (λ rows. cut_rows width rows (items ++ row)) next ∙ (λ k. first k ∷ others k)
