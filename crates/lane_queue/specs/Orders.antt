-- Orders, and lists of them.
use Rattle.std.specs.Prelude.{[], ◌≡◌, ℕ, ◌+◌, ◌⊎◌, Bool, true, false, List, ◌∷◌, ◌++◌}
use Rattle.std.specs.List.{sum_by}
use Rattle.lane_queue.specs.declared.order.Order.{Order}
use Rattle.lane_queue.specs.declared.order.Order.TheVariants.{Map, Reduce}

-- as which attempt an order is to be done
abbrev pub attempt_of : Order → ℕ
attempt_of (Map attempt text) = attempt
attempt_of (Reduce attempt part runs) = attempt

-- the first list is left where some elements of the second are struck out
abbrev pub IsSub : List Order → List Order → Type 0
IsSub [] ys = Unit {0}
IsSub (x ∷ xs) [] = ⊥
IsSub (x ∷ xs) (y ∷ ys) = ((x ≡ y) × IsSub xs ys) ⊎ IsSub (x ∷ xs) ys

-- one of two lists is empty
abbrev pub is_alone : List Order → List Order → Bool
is_alone [] ys = true
is_alone (x ∷ xs) [] = true
is_alone (x ∷ xs) (y ∷ ys) = false

-- each order was taken or is left as often as it was put, however orders are weighed; and where one pass
-- alone put and one alone took, what was taken and then what is left is what was put, in its order
pub record Settles (one_each : Bool) (puts takes left : List Order) : Type 0 where
  pub as_often : (weight : Order → ℕ) → sum_by weight puts ≡ sum_by weight takes + sum_by weight left
  pub in_turn : one_each ≡ true → puts ≡ takes ++ left
