-- The set of barred pairs, one pair after another.
use Rattle.std.proofs.Common.{ℕ, List, [], ◌∷◌, ◌≡◌, arith, inl, inr, length}
use Rattle.std.specs.Prelude.{All, fold, slice_index_or, ◌↔◌, ◌⊎◌}
use Rattle.std.proofs.lemmas.Bool.{cases_lt, false≢true}
use Rattle.std.proofs.lemmas.List.{get_or-replicate, get_or_past, length-replicate}
use Rattle.std.proofs.lemmas.List.Elements.{All-head, All-tail}
use Rattle.std.proofs.lemmas.List.Elements.{Contains-append_right}
use Rattle.node_ids.specs.Sets.{HasPair, no_pairs, with_pair, row_with}
use Rattle.node_ids.proofs.Rows.{pairs-with_pair}
use Rattle.node_ids.proofs.Updating.{length-updated}
use Rattle.wave_arrays.specs.declared.array_rows.WidePairRow.{WidePairRow}
use Rattle.wave_arrays.specs.Rows.{IsListed, IsPairKnown, TheBarredAreThoseListed}

-- the set with these pairs in it too
abbrev with_all : List (List ℕ) → List WidePairRow → List (List ℕ)
with_all set pairs = fold (λ set pair. with_pair set pair.split pair.worker) set pairs

-- no pair is in the set of none
no_pair : (splits s w : ℕ) → HasPair (no_pairs splits) s w → ⊥
no_pair splits s w has =
    let row : slice_index_or (no_pairs splits) s [] ≡ [] = elim (cases_lt s splits) [
      | inl lt ↦ get_or-replicate splits s [] [] lt
      | inr past ↦ get_or_past (no_pairs splits) s [] (omega (arith, past, length-replicate {A = List ℕ} splits []))
    ] in
    false≢true (rw row at has)

has_all : (workers : ℕ) (set : List (List ℕ)) (pairs : List WidePairRow) (s w : ℕ)
    → All (IsPairKnown (length set) workers) pairs
    → HasPair (with_all set pairs) s w ↔ (IsListed pairs s w ⊎ HasPair set s w)
has_all workers set [] s w known = grind arith
has_all workers set (pair ∷ rest) s w known =
    let first = All-head (IsPairKnown (length set) workers) pair rest known in
    let one = pairs-with_pair set pair.split pair.worker s w first.split in
    let size = length-updated (row_with pair.worker) set pair.split in
    let all = has_all workers (with_pair set pair.split pair.worker) rest s w
    (λ i d lt. rw size (All-tail (IsPairKnown (length set) workers) pair rest known i d lt)) in (
      λ new. elim (all.0 new) [
        | inl later ↦ inl (Contains-append_right (pair ∷ []) rest _ later)
        | inr had ↦ grind arith
      ],
      λ given. all.1 (elim given [
        | inl listed ↦ grind arith
        | inr old ↦ inr (one.1 (inr old))
      ]),
    )

pub barred_are_listed : TheBarredAreThoseListed
barred_are_listed splits workers pairs known s w =
    let size = length-replicate {A = List ℕ} splits [] in
    let all = has_all workers (no_pairs splits) pairs s w (λ i d lt. rw size (known i d lt)) in (
      λ barred. elim (all.0 barred) [
        | inl listed ↦ listed
        | inr none ↦ absurd (no_pair splits s w none)
      ],
      λ listed. all.1 (inl listed),
    )
