-- The lists of holders after a change.
use Rattle.std.proofs.Common.{◌≡◌, ℕ, ◌++◌, ◌∷◌, [], List, length, ◌∙◌, ap, subst, Bool, cond}
use Rattle.std.specs.Prelude.{if◌then◌else◌, filter}
use Rattle.std.specs.List.Retain.{RetainsInTurn}
use Rattle.std.specs.List.{enumerate_from}
use Rattle.std.proofs.lemmas.List.{length-map}
use Rattle.std.proofs.lemmas.List.FromFn.{length-enumerate_from}
use Rattle.node_ids.specs.Sets.{is_in_row}
use Rattle.block_map.specs.Holdings.{with_holder_of_all}

pub length-with_holder_of_all : (lists : List (List ℕ)) (set : List ℕ) (w : ℕ) →
    length (with_holder_of_all lists set w) ≡ length lists
length-with_holder_of_all lists set w =
    length-map (enumerate_from 0 lists)
    (λ (place : ℕ × List ℕ). if is_in_row set place.0 then place.1 ++ w ∷ [] else place.1)
    ∙ length-enumerate_from 0 lists

-- what a test keeps that changes nothing
pub retained : {S X : Type 0} (R : S → X → Bool → S → X → Type 0) (test : X → Bool) (s : S) →
    ((x : X) (b : Bool) (t : S) (y : X) → R s x b t y → (b ≡ test x) × (y ≡ x) × (t ≡ s)) →
    (xs ys : List X) → RetainsInTurn R s xs ys → ys ≡ filter test xs
retained R test s says [] ys none = none
retained {S = S} {X = X} R test s says (x ∷ xs) ys (b, t, y, step, zs, rest, e) =
    let said = says x b t y step in
    let same : zs ≡ filter test xs =
    retained R test s says xs zs (subst (λ (u : S). RetainsInTurn R u xs zs) said.2 rest) in
    e ∙ ap (λ (k : Bool). cond k (y ∷ zs) zs) said.0 ∙ ap (λ (z : X). cond (test x) (z ∷ zs) zs) said.1
    ∙ ap (λ (l : List X). cond (test x) (x ∷ l) l) same
