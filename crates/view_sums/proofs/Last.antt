-- A list that gives away its last element.
use Rattle.std.proofs.Common.{◌≡◌, List, [], ◌∷◌, ◌++◌, length, get_or, ap, ◌∙◌, subst, arith, length-append}
use Rattle.std.proofs.lemmas.List.{get_or_append_left}
use Rattle.std.proofs.Math.Seq.{get_or-append_seam}
use Rattle.std.specs.List.{All}

-- what holds of all elements holds of those that stay, and of the last
pub all_but_last : {A : Type 0} (P : A → Type 0) (xs ys : List A) (x : A) → ys ≡ xs ++ x ∷ [] → All P ys →
    All P xs × P x
all_but_last P xs ys x is h =
    let longer = length-append xs (x ∷ []) in (
      (λ k d lt.
          let same = ap (λ l. get_or l k d) is ∙ get_or_append_left xs (x ∷ []) d k lt in
          subst P same (h k d (omega (arith, ap length is, longer)))),
      (
          let same = ap (λ l. get_or l (length xs) x) is ∙ get_or-append_seam xs x [] x in
          subst P same (h (length xs) x (omega (arith, ap length is, longer)))
          ),
    )
