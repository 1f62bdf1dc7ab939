-- Lists with some elements struck out.
use Rattle.std.proofs.Common.{◌≡◌, ◌≤◌, inl, inr, ⊎_elim, true, List, [], ◌∷◌, ◌++◌, length, refl, sym, subst}
use Rattle.std.proofs.Common.{arith}
use Rattle.std.proofs.lemmas.List.{append-nil}
use Rattle.lane_queue.specs.declared.order.Order.{Order}
use Rattle.lane_queue.specs.Orders.{IsSub, is_alone}

-- the longer list has one element more
pub sub_longer : (xs ys : List Order) (z : Order) → IsSub xs ys → IsSub xs (ys ++ z ∷ [])
sub_longer [] ys z h = tt
sub_longer (x ∷ xs) [] z h = absurd h
sub_longer (x ∷ xs) (y ∷ ys) z h = ⊎_elim
    (λ (t : (x ≡ y) × IsSub xs ys). inl (t.0, sub_longer xs ys z t.1))
    (λ (t : IsSub (x ∷ xs) ys). inr (sub_longer (x ∷ xs) ys z t))
    h

-- both lists have one element more
pub sub_both : (xs ys : List Order) (z : Order) → IsSub xs ys → IsSub (xs ++ z ∷ []) (ys ++ z ∷ [])
sub_both [] [] z h = inl (refl, tt)
sub_both [] (y ∷ ys) z h = inr (sub_both [] ys z tt)
sub_both (x ∷ xs) [] z h = absurd h
sub_both (x ∷ xs) (y ∷ ys) z h = ⊎_elim
    (λ (t : (x ≡ y) × IsSub xs ys). inl (t.0, sub_both xs ys z t.1))
    (λ (t : IsSub (x ∷ xs) ys). inr (sub_both (x ∷ xs) ys z t))
    h

pub sub_length : (xs ys : List Order) → IsSub xs ys → length xs ≤ length ys
sub_length [] ys h = omega arith
sub_length (x ∷ xs) [] h = absurd h
sub_length (x ∷ xs) (y ∷ ys) h = ⊎_elim
    (λ (t : (x ≡ y) × IsSub xs ys).
    let r = sub_length xs ys t.1 in
    let g : length (x ∷ xs) ≤ length (y ∷ ys) = omega arith in
    g)
    (λ (t : IsSub (x ∷ xs) ys).
    let r = sub_length (x ∷ xs) ys t in
    let g : length (x ∷ xs) ≤ length (y ∷ ys) = omega arith in
    g)
    h

-- one that is as long is the whole
pub sub_whole : (xs ys : List Order) → IsSub xs ys → length ys ≤ length xs → xs ≡ ys
sub_whole [] [] h le = refl
sub_whole [] (y ∷ ys) h le = absurd (omega arith)
sub_whole (x ∷ xs) [] h le = absurd h
sub_whole (x ∷ xs) (y ∷ ys) h le = ⊎_elim
    (λ (t : (x ≡ y) × IsSub xs ys). λ k. t.0 k ∷ sub_whole xs ys t.1 (omega arith) k)
    (λ (t : IsSub (x ∷ xs) ys). absurd (omega (arith, sub_length (x ∷ xs) ys t)))
    h

-- of two lists, one of which is empty
pub sub_alone : (xs ys zs : List Order) → is_alone xs ys ≡ true → IsSub xs zs → IsSub ys zs
    → IsSub (xs ++ ys) zs
sub_alone [] ys zs a h k = k
sub_alone (x ∷ xs) [] zs a h k = subst (λ l. IsSub l zs) (sym (append-nil (x ∷ xs))) h
sub_alone (x ∷ xs) (y ∷ ys) zs a h k = absurd cc
