-- What stands in a list.
use Rattle.std.proofs.Common.{◌≡◌, ℕ, List, [], ◌∷◌, get_or, map, replicate, Contains, refl, ap, ◌∙◌}
use Rattle.std.proofs.Common.{inl, inr, ◌⊎◌, arith}
use Rattle.std.proofs.Math.ListN.{get_or-map}
use Rattle.std.proofs.lemmas.Bool.{cases_lt}
use Rattle.std.proofs.lemmas.List.{length-map, get_or-replicate, get_or_past, length-replicate}
use Rattle.std.proofs.lemmas.List.Elements.{Contains-append_right}

module _ {X : Type 0} where
  pub Contains-nil : (x : X) → Contains [] x → ⊥
  Contains-nil x i = let none = i.1 in absurd (omega arith)

  pub Contains-here : (xs : List X) (x : X) → Contains (x ∷ xs) x
  Contains-here xs x = (0, omega arith, refl)

  pub Contains-there : (y : X) (xs : List X) (x : X) → Contains xs x → Contains (y ∷ xs) x
  Contains-there y xs x i = Contains-append_right (y ∷ []) xs x i

  pub Contains-cons : (y : X) (xs : List X) (x : X) → Contains (y ∷ xs) x → (y ≡ x) ⊎ Contains xs x
  Contains-cons y xs x i = grind arith

  pub Contains-one : (y x : X) → Contains (y ∷ []) x → y ≡ x
  Contains-one y x i = elim (Contains-cons y [] x i) [ inl e ↦ e | inr none ↦ absurd (Contains-nil x none) ]

  pub replicated_at : (n v : ℕ) (x : X) → get_or (replicate n x) v x ≡ x
  replicated_at n v x = grind (arith, cases_lt, get_or-replicate, get_or_past, length-replicate)

pub Contains-map : {X Y : Type 0} (f : X → Y) (xs : List X) (x : X) → Contains xs x
    → Contains (map f xs) (f x)
Contains-map f xs x i =
    let size = length-map xs f in let l = i.1 in (i.0, omega arith, get_or-map f xs i.0 x ∙ ap f i.2)

pub Contains-from_map : {X Y : Type 0} (f : X → Y) (xs : List X) (y : Y) → Contains (map f xs) y
    → (x : X) × (f x ≡ y) × Contains xs x
Contains-from_map f [] y i = absurd (Contains-nil y i)
Contains-from_map f (x ∷ xs) y i = elim (Contains-cons (f x) (map f xs) y i) [
  | inl e ↦ (x, e, Contains-here xs x)
  | inr rest ↦ (let o = Contains-from_map f xs y rest in (o.0, o.1, Contains-there x xs o.0 o.2))
]
