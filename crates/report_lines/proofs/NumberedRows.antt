-- Lines of the elements of a list, that are written one by one, by number.
use Rattle.std.proofs.Common.{ℕ, List, ◌++◌, ◌≡◌, ◌+◌, ◌<◌, ◌∙◌, get_or, length, slice_index_or}
use Rattle.std.specs.List.{flat_map, range_with_len}
use Rattle.std.proofs.lemmas.List.{get_or_default}
use Rattle.text_lines.proofs.NumberedLines.{lines_more}

-- Where the line of element n is added to the lines of the first n elements, these are then the lines of the
-- first n + 1 elements. The caller's name for n is k.
pub rows_more : {A : Type 0} (row : ℕ → A → List ℕ) (all : List A) (none x : A) (start now next : List ℕ)
    (n k : ℕ) → x ≡ get_or all n x → k ≡ n →
    now ≡ start ++ flat_map (λ i. row i (slice_index_or all i none)) (range_with_len 0 n) →
    next ≡ now ++ row k x → n < length all →
    next ≡ start ++ flat_map (λ i. row i (slice_index_or all i none)) (range_with_len 0 (n + 1))
rows_more row all none x start now next n k is here before one inside =
    lines_more (λ i. row i (slice_index_or all i none)) _ _ _ n before
    (one ∙ (λ j. now ++ row (here j) ((is ∙ get_or_default all n x none inside) j)))
