-- A table of keys as the list of what the keys show, where a test decides which keys show the same.
use Rattle.std.proofs.Common.{ℕ, List, [], ◌∷◌, ◌≡◌, ◌++◌, ◌<◌, ◌∙◌, length, map, Bool, true, false, not}
use Rattle.std.proofs.Common.{zero, suc, Option, Some, None, sym, ap, refl, arith}
use Rattle.std.specs.Prelude.{◌↔◌, ◌||◌, if◌then◌else◌, Contains, IsTrue}
use Rattle.std.specs.Bool.{Decides}
use Rattle.std.specs.List.{list_any, position, prefix_len, slice_index_or}
use Rattle.std.specs.Option.{IsSome, is_some}
use Rattle.std.proofs.lemmas.Bool.{false_from_ne_true, false≢true}
use Rattle.std.proofs.lemmas.Map.Views.{Contains-from_any}
use Rattle.std.proofs.lemmas.List.{length-map, map-append}

module _ {X Y : Type 0} (f : X → Y) where
  pub list_any-map : (p : Y → Bool) (xs : List X) → list_any p (map f xs) ≡ list_any (λ x. p (f x)) xs
  list_any-map p [] = refl
  list_any-map p (x ∷ xs) = rw (list_any-map p xs) refl

  prefix_len-map : (p : Y → Bool) (xs : List X) → prefix_len p (map f xs) ≡ prefix_len (λ x. p (f x)) xs
  prefix_len-map p [] = refl
  prefix_len-map p (x ∷ xs) = rw (prefix_len-map p xs) refl

  pub position-map : (p : Y → Bool) (xs : List X) → position p (map f xs) ≡ position (λ x. p (f x)) xs
  position-map p xs = rw (prefix_len-map (λ y. not (p y)) xs, length-map) refl

module _ {Y : Type 0} (same : Y → Y → Bool) (decides : (a b : Y) → Decides (same a b) (a ≡ b)) where
  in_any : (y : Y) (ys : List Y) (k : ℕ) → k < length ys → slice_index_or ys k y ≡ y
      → list_any (same y) ys ≡ true
  in_any y [] k lt is = absurd (omega arith)
  in_any y (z ∷ zs) zero lt is = rw ((decides y z).1 (sym is)) refl
  in_any y (z ∷ zs) (suc k) lt is =
      let rest : list_any (same y) zs ≡ true = in_any y zs k (omega arith) is in
      elim (same y z) as (λ b. (b || list_any (same y) zs) ≡ true) [ true ↦ refl | false ↦ rest ]

  -- the test finds what the list contains
  pub found : (y : Y) (ys : List Y) → IsTrue (list_any (same y) ys) ↔ Contains ys y
  found y ys = (
    λ h. Contains-from_any (λ a b. (decides a b).0) y ys h,
    λ (k, lt, is). in_any y ys k lt is,
  )

  module _ {X : Type 0} (f : X → Y) where
    -- a look-up among the keys finds what they show
    pub found_key : (r : Bool) (y : Y) (keys : List X) (ys : List Y) → map f keys ≡ ys
        → r ≡ list_any (λ k. same y (f k)) keys → IsTrue r ↔ Contains ys y
    found_key r y keys ys shown is =
        let seen : r ≡ list_any (same y) ys =
        is ∙ sym (list_any-map f (same y) keys) ∙ ap (list_any (same y)) shown in
        rw seen (found y ys)

    -- one key more, which was not there
    pub declared : (key : X) (keys new : List X) (ys : List Y) → map f keys ≡ ys
        → new ≡ (if list_any (λ k. same (f key) (f k)) keys then keys else keys ++ key ∷ [])
        → (Contains ys (f key) → ⊥) → map f new ≡ ys ++ f key ∷ []
    declared key keys new ys shown is lacks =
        let none : list_any (λ k. same (f key) (f k)) keys ≡ false =
        false_from_ne_true _ (λ h. lacks ((found_key _ (f key) keys ys shown refl).0 h)) in
        ap (map f) (is ∙ ap (λ b. if b then keys else keys ++ key ∷ []) none) ∙ map-append f keys (key ∷ [])
        ∙ ap (λ l. l ++ f key ∷ []) shown

pub some_by_test : {X : Type 0} (o : Option X) (b : Bool) (P : Type 0) → is_some o ≡ b → (IsTrue b ↔ P)
    → IsSome o ↔ P
some_by_test None b P e h = (λ none. absurd (false≢true none), λ p. e ∙ h.1 p)
some_by_test (Some x) b P e h = (λ some. h.0 (sym e), λ p. refl)
