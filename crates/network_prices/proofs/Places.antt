-- Units at places, counted.
use Rattle.std.proofs.Common.{◌≡◌, ℕ, zero, suc, ◌+◌, ◌<◌, Bool, cond, List, [], ◌∷◌, length, get_or, refl}
use Rattle.std.proofs.Common.{ap, inl, inr, ◌⊎◌, arith}
use Rattle.std.specs.Prelude.{◌==◌}
use Rattle.std.proofs.lemmas.Bool.{eq-eqb, ne_eqb}
use Rattle.std.proofs.lemmas.Grind.{common_steps}
use Rattle.std.proofs.lemmas.List.Sums.{sum_by-cons}
use Rattle.flow_network.specs.declared.arcs.FlowArc.{FlowArc}
use Rattle.flow_network.specs.Flows.{arc_at}
use Rattle.network_prices.specs.Ways.{CameFrom}
use Rattle.augmenting_paths.specs.Shipping.{standing}

pub standing_none : (xs : List ℕ) (v : ℕ) → ((i : ℕ) → i < length xs → get_or xs i 0 ≡ v → ⊥) →
    standing xs v ≡ 0
standing_none [] v n = refl
standing_none (x ∷ xs) v n =
    let rest = standing_none xs v (λ i l e. n (suc i) (omega arith) e) in
    let sum = sum_by-cons (λ (place : ℕ). cond (place == v) 1 0) x xs in
    let here = ap {B = ℕ} (λ (b : Bool). cond b 1 0) (ne_eqb x v (λ e. n 0 (omega arith) e)) in omega arith

pub standing_some : (xs : List ℕ) (v i : ℕ) → i < length xs → get_or xs i 0 ≡ v → 0 < standing xs v
standing_some [] v i l e = absurd (omega arith)
standing_some (x ∷ xs) v zero l e = grind (arith, common_steps, sum_by-cons, eq-eqb)
standing_some (x ∷ xs) v (suc i) l e = grind (arith, common_steps, sum_by-cons)

-- each number from m on stands once
pub standing_from : (xs : List ℕ) (m i v : ℕ) → ((k : ℕ) → k < length xs → get_or xs k 0 ≡ m + k) →
    i < length xs → v ≡ m + i → standing xs v ≡ 1
standing_from [] m i v each l e = absurd (omega arith)
standing_from (x ∷ xs) m zero v each l e =
    let sum = sum_by-cons (λ (place : ℕ). cond (place == v) 1 0) x xs in
    let first = each 0 (omega arith) in
    let here = ap {B = ℕ} (λ (b : Bool). cond b 1 0) (eq-eqb x v (omega arith)) in
    let rest = standing_none xs v (λ k n q. (let other = each (suc k) (omega arith) in omega arith)) in
    omega arith
standing_from (x ∷ xs) m (suc i) v each l e =
    let sum = sum_by-cons (λ (place : ℕ). cond (place == v) 1 0) x xs in
    let first = each 0 (omega arith) in
    let here = ap {B = ℕ} (λ (b : Bool). cond b 1 0) (ne_eqb x v (λ q. omega arith)) in
    let rest = standing_from xs (suc m) i v (λ k n. (let other = each (suc k) (omega arith) in omega arith))
    (omega arith) (omega arith) in omega arith

-- a path of at least one arc leaves its start
pub leaves : (arcs : List FlowArc) (flows : List ℕ) (path : List ℕ) (s v : ℕ) → CameFrom arcs flows path s v
    → (v ≡ s) ⊎ ((k : ℕ) × (k < length arcs) × ((arc_at arcs k).from ≡ s))
leaves arcs flows [] s v came = inl came
leaves arcs flows (k ∷ path) s v came = elim (leaves arcs flows path s (arc_at arcs k).from came.3) [
  | inl e ↦ inr (k, came.0, e)
  | inr r ↦ inr r
]
