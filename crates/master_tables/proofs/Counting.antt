-- Counts over the front of a list, by one element more.
use Rattle.std.proofs.Common.{◌≡◌, ℕ, ◌+◌, ◌<◌, List, length, map, take, get_or}
use Rattle.std.proofs.Common.{refl, sym, ap, ◌∙◌, arith, length-append, Bool, true, false}
use Rattle.std.specs.Prelude.{flat_map}
use Rattle.std.specs.List.{list_all}
use Rattle.std.proofs.lemmas.Grind.{flat_map-append}
use Rattle.std.proofs.lemmas.Grind.{common_steps}
use Rattle.std.proofs.lemmas.List.{append-nil, get_or-map, length-map, take_more}
use Rattle.std.proofs.lemmas.List.Folds.{list_all_more, list_all_at}

pub length_more : {X Y : Type 0} (f : X → List Y) (xs : List X) (i : ℕ) (x : X) → i < length xs →
    x ≡ get_or xs i x →
    length (flat_map f (take (i + 1) xs)) ≡ length (flat_map f (take i xs)) + length (f x)
length_more f xs i x inside at =
    grind (arith, common_steps, take_more, flat_map-append, length-append, append-nil)

-- an element of a list that was changed throughout
pub changed_at : {X Y : Type 0} (f : X → Y) (xs : List X) (i : ℕ) (x : X) → i < length xs →
    x ≡ get_or xs i x → f x ≡ get_or (map f xs) i (f x)
changed_at f xs i x inside at = ap f at ∙ sym (get_or-map f xs i x (f x) inside)

-- a test of each element of such a list
pub all_more : {X Y : Type 0} (f : X → Y) (p : Y → Bool) (xs : List X) (i : ℕ) (x : X) → i < length xs →
    x ≡ get_or xs i x → list_all p (take i (map f xs)) ≡ true → p (f x) ≡ true →
    list_all p (take (i + 1) (map f xs)) ≡ true
all_more f p xs i x inside at before here =
    list_all_more p (map f xs) i (f x) (omega (arith, inside, length-map xs f))
    ∙ rw (before, sym (changed_at f xs i x inside at)) here

pub not_all : {X Y : Type 0} (f : X → Y) (p : Y → Bool) (xs : List X) (i : ℕ) (x : X) → i < length xs →
    x ≡ get_or xs i x → p (f x) ≡ false → list_all p (map f xs) ≡ false
not_all f p xs i x inside at here =
    list_all_at p (map f xs) i (f x) (omega (arith, inside, length-map xs f))
    (ap p (sym (changed_at f xs i x inside at)) ∙ here)

pub all_at : {X Y : Type 0} (f : X → Y) (p : Y → Bool) (xs : List X) (i : ℕ) (x : X) (b : Bool) →
    i < length xs → x ≡ get_or xs i x → p (f x) ≡ b → list_all p (map f xs) ≡ true → b ≡ true
all_at f p xs i x true inside at here all = refl
all_at f p xs i x false inside at here all = sym (not_all f p xs i x inside at here) ∙ all
