-- Sets of splits that are known.
use Rattle.std.proofs.Common.{ℕ, List, [], ◌∷◌, Bool, true, false, cond, All}
use Rattle.std.specs.Prelude.{◌==◌, fold, nat_lt}
use Rattle.std.proofs.lemmas.List.Elements.{All-cons, All-head, All-nil, All-tail}
use Rattle.node_ids.specs.Sets.{row_of_all, row_with}

either : (P : ℕ → Type 0) (b : Bool) (xs ys : List ℕ) → All P xs → All P ys → All P (cond b xs ys)
either P true xs ys first other = first
either P false xs ys first other = other

-- a row with one more in it that is known
known_with : (P : ℕ → Type 0) (n : ℕ) (row : List ℕ) → P n → All P row → All P (row_with n row)
known_with P n [] one all = All-cons P n [] one (All-nil P)
known_with P n (m ∷ row) one all =
    let rest = known_with P n row one (All-tail P m row all) in
    either P (nat_lt n m) _ _ (All-cons P n (m ∷ row) one all)
    (either P (n == m) _ _ all (All-cons P m (row_with n row) (All-head P m row all) rest))

known_from : (P : ℕ → Type 0) (splits row : List ℕ) → All P row → All P splits
    → All P (fold (λ now n. row_with n now) row splits)
known_from P [] row old all = old
known_from P (n ∷ splits) row old all =
    known_from P splits (row_with n row) (known_with P n row (All-head P n splits all) old)
    (All-tail P n splits all)

-- the row of splits that are known
pub known_row : (P : ℕ → Type 0) (splits : List ℕ) → All P splits → All P (row_of_all splits)
known_row P splits all = known_from P splits [] (All-nil P) all
