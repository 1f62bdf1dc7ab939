-- What holds of each two elements of a list, and of what a function makes of them.
use Rattle.std.proofs.Common.{List, [], ◌∷◌, ◌<◌, length, map, get_or, subst, sym, arith}
use Rattle.std.specs.List.{AllPairs}
use Rattle.std.proofs.lemmas.List.{get_or-map, length-map}

pub AllPairs-map : {X Y : Type 0} (R : X → X → Type 0) (f : Y → X) (ys : List Y)
    → AllPairs (λ a b. R (f a) (f b)) ys → AllPairs R (map f ys)
AllPairs-map R f [] h i j d lt in_range = absurd (omega arith)
AllPairs-map {X = X} R f (y ∷ ys) h i j d lt in_range =
    let far : j < length (y ∷ ys) = rw length-map at in_range in
    let near : i < length (y ∷ ys) = omega arith in
    let P : X → Type 0 = λ a. R a (get_or (map f (y ∷ ys)) j d) in
    subst P (sym (get_or-map f (y ∷ ys) i y d near))
    (subst (R (f (get_or (y ∷ ys) i y))) (sym (get_or-map f (y ∷ ys) j y d far)) (h i j y lt far))

pub AllPairs-unmap : {X Y : Type 0} (R : X → X → Type 0) (f : Y → X) (ys : List Y)
    → AllPairs R (map f ys) → AllPairs (λ a b. R (f a) (f b)) ys
AllPairs-unmap {X = X} R f ys h i j d lt in_range =
    let near : i < length ys = omega arith in
    let P : X → Type 0 = λ a. R a (f (get_or ys j d)) in
    subst P (get_or-map f ys i d (f d) near)
    (subst (R (get_or (map f ys) i (f d))) (get_or-map f ys j d (f d) in_range)
    (h i j (f d) lt (rw length-map in_range)))
