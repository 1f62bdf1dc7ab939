-- Sums over marked nodes.
use Rattle.std.proofs.Common.{◌≡◌, ℕ, zero, suc, ◌+◌, ◌<◌, ◌≤◌, Bool, true, false, cond, List, [], ◌∷◌}
use Rattle.std.proofs.Common.{length, get_or, set, refl, ap, ◌∙◌, arith}
use Rattle.std.proofs.lemmas.Bool.{false≢true}
use Rattle.flow_network.specs.Leaving.{marked_sum}
use Rattle.flow_network.proofs.Listed.{marked_sum-set}

-- a sum over marked nodes
marked_same : (marks : List Bool) (i : ℕ) (f g : ℕ → ℕ) → ((w : ℕ) → i ≤ w → f w ≡ g w)
    → marked_sum marks i f ≡ marked_sum marks i g
marked_same [] i f g s = refl
marked_same (b ∷ marks) i f g s = let rest = marked_same marks (suc i) f g (λ w l. s w (omega arith)) in
    let here = s i (omega arith) in
    ap (λ n. cond b n 0 + marked_sum marks (suc i) f) here ∙ ap (λ n. cond b (g i) 0 + n) rest

marked_less : (marks : List Bool) (i u : ℕ) (f g : ℕ → ℕ) → get_or marks u false ≡ true
    → f (i + u) ≡ g (i + u) + 1 → ((w : ℕ) → (w ≡ i + u → ⊥) → f w ≡ g w)
    → marked_sum marks i f ≡ marked_sum marks i g + 1
marked_less [] i u f g m e s = absurd (false≢true m)
marked_less (b ∷ marks) i zero f g m e s = grind (arith, marked_same)
marked_less (b ∷ marks) i (suc u) f g m e s =
    let at : i + suc u ≡ suc i + u = omega arith in
    let rest = marked_less marks (suc i) u f g m (rw at at e) (λ w n. s w (λ q. n (q ∙ at))) in
    let here : f i ≡ g i = s i (λ q. absurd (omega arith)) in
    let first : cond b (f i) 0 ≡ cond b (g i) 0 = ap (λ n. cond b n 0) here in
    omega arith

unmarked_same : (marks : List Bool) (i u : ℕ) (f g : ℕ → ℕ) → get_or marks u false ≡ false
    → ((w : ℕ) → (w ≡ i + u → ⊥) → f w ≡ g w)
    → marked_sum marks i f ≡ marked_sum marks i g
unmarked_same [] i u f g m s = refl
unmarked_same (b ∷ marks) i zero f g m s = grind (arith, marked_same)
unmarked_same (b ∷ marks) i (suc u) f g m s =
    let at : i + suc u ≡ suc i + u = omega arith in
    let rest = unmarked_same marks (suc i) u f g m (λ w n. s w (λ q. n (q ∙ at))) in
    let here : f i ≡ g i = s i (λ q. absurd (omega arith)) in
    let first : cond b (f i) 0 ≡ cond b (g i) 0 = ap (λ n. cond b n 0) here in
    omega arith

-- what is counted of one marked node falls by one
pub less_at : (marks : List Bool) (u : ℕ) (f g : ℕ → ℕ) → get_or marks u false ≡ true → f u ≡ g u + 1
    → ((w : ℕ) → (w ≡ u → ⊥) → f w ≡ g w)
    → marked_sum marks 0 f ≡ marked_sum marks 0 g + 1
less_at marks u f g m e s = grind (arith, marked_less)

-- a node is marked, and what is counted of it alone may change
pub enter_at : (marks : List Bool) (u : ℕ) (f g : ℕ → ℕ) → u < length marks → get_or marks u false ≡ false
    → ((w : ℕ) → (w ≡ u → ⊥) → f w ≡ g w)
    → marked_sum (set marks u true) 0 g ≡ marked_sum marks 0 f + g u
enter_at marks u f g l m s = grind (arith, marked_sum-set, unmarked_same)

-- no more nodes are marked than there are
pub ones_le : (marks : List Bool) (i : ℕ) → marked_sum marks i (λ _. 1) ≤ length marks
ones_le [] i = omega arith
ones_le (true ∷ marks) i = let rest = ones_le marks (suc i) in omega arith
ones_le (false ∷ marks) i = let rest = ones_le marks (suc i) in omega arith

-- nothing is summed where nothing is marked
pub unmarked_sum : (marks : List Bool) (i : ℕ) (f : ℕ → ℕ) → ((v : ℕ) → get_or marks v false ≡ false)
    → marked_sum marks i f ≡ 0
unmarked_sum [] i f none = refl
unmarked_sum (b ∷ marks) i f none =
    let rest = unmarked_sum marks (suc i) f (λ v. none (suc v)) in
    rw (ap (λ x. cond x (f i) 0 + marked_sum marks (suc i) f) (none 0)) (omega arith)
