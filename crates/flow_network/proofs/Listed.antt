-- What the lists hold, and how long they are together.
use Rattle.std.proofs.Common.{◌≡◌, ℕ, zero, suc, ◌+◌, ◌*◌, ◌<◌, ◌≤◌, Bool, true, false, cond, eqb, List, [], ◌∷◌}
use Rattle.std.proofs.Common.{length, get_or, set, refl, sym, ap, ◌∙◌, inl, inr, arith, length-append, Contains}
use Rattle.std.proofs.lemmas.Bool.{cases_eq, eq-eqb, ne_eqb}
use Rattle.std.proofs.lemmas.List.Elements.{Contains-get_or, Contains-append_left, Contains-append_right}
use Rattle.std.proofs.lemmas.List.Elements.{Contains-append_cases}
use Rattle.flow_network.specs.declared.arcs.FlowArc.{FlowArc}
use Rattle.flow_network.specs.declared.arcs.ArcNo.{ArcNo}
use Rattle.flow_network.specs.declared.arcs.ArcNo.TheVariants.{Forward, Reverse}
use Rattle.flow_network.specs.Flows.{arc_at, arc_index, tail_of, own_leaving, leaving_from, leaving_of}
use Rattle.flow_network.specs.Leaving.{ListsHoldEachArc, marked_sum, LooksAreFew}
use Rattle.flow_network.proofs.Members.{Contains-nil, Contains-here, Contains-cons}

-- the end of an arc that the residual arc leaves
start_of : ArcNo → FlowArc → ℕ
start_of (Forward i) x = x.from
start_of (Reverse i) x = x.to

into_own : (a : ArcNo) (k : ℕ) (x : FlowArc) (u : ℕ) → arc_index a ≡ k → start_of a x ≡ u →
    Contains (own_leaving k x u) a
unfolding start_of
into_own (Forward i) k x u e s = Contains-append_left (cond (eqb x.from u) (Forward k ∷ []) []) _ (Forward i)
    (rw (e, eq-eqb x.from u s) (Contains-here [] (Forward k)))
into_own (Reverse i) k x u e s = Contains-append_right _ (cond (eqb x.to u) (Reverse k ∷ []) []) (Reverse i)
    (rw (e, eq-eqb x.to u s) (Contains-here [] (Reverse k)))

from_own : (a : ArcNo) (k : ℕ) (x : FlowArc) (u : ℕ) → Contains (own_leaving k x u) a →
    (arc_index a ≡ k) × (start_of a x ≡ u)
unfolding start_of
from_own a k x u i = grind (arith, i, Contains-append_cases, Contains-cons, Contains-nil)

into : (a : ArcNo) (k : ℕ) (arcs : List FlowArc) (u j : ℕ) → j < length arcs → arc_index a ≡ k + j →
    start_of a (arc_at arcs j) ≡ u → Contains (leaving_from k arcs u) a
into a k [] u j l e s = absurd (omega arith)
into a k (x ∷ arcs) u zero l e s =
    Contains-append_left (own_leaving k x u) (leaving_from (suc k) arcs u) a
    (into_own a k x u (omega arith) s)
into a k (x ∷ arcs) u (suc j) l e s =
    Contains-append_right (own_leaving k x u) (leaving_from (suc k) arcs u) a
    (into a (suc k) arcs u j (omega arith) (omega arith) s)

out_of : (a : ArcNo) (k : ℕ) (arcs : List FlowArc) (u : ℕ) → Contains (leaving_from k arcs u) a →
    (j : ℕ) × (arc_index a ≡ k + j) × (j < length arcs) × (start_of a (arc_at arcs j) ≡ u)
out_of a k [] u i = absurd (Contains-nil a i)
out_of a k (x ∷ arcs) u i =
    elim (Contains-append_cases (own_leaving k x u) (leaving_from (suc k) arcs u) a i) [
      | inl l ↦ (let o = from_own a k x u l in let e = o.0 in (0, omega arith, omega arith, o.1))
      | inr r ↦ (let o = out_of a (suc k) arcs u r in let e = o.1 in let m = o.2 in
          (suc o.0, omega arith, omega arith, o.3))
    ]

start_is_tail : (arcs : List FlowArc) (a : ArcNo) → start_of a (arc_at arcs (arc_index a)) ≡ tail_of arcs a
unfolding start_of
start_is_tail arcs (Forward i) = refl
start_is_tail arcs (Reverse i) = refl

pub each_arc : ListsHoldEachArc
each_arc arcs u a = (
  (λ l e. into a 0 arcs u (arc_index a) l (omega arith) (start_is_tail arcs a ∙ e)),
  (λ i. let o = out_of a 0 arcs u i in let e = o.1 in let m = o.2 in
      let same : o.0 ≡ arc_index a = omega arith in
      (omega arith, sym (start_is_tail arcs a) ∙ ap (λ j. start_of a (arc_at arcs j)) (sym same) ∙ o.3)),
)

-- each of a node's list is a residual arc that leaves it
pub leaving_at : (arcs : List FlowArc) (u i : ℕ) (d : ArcNo) → i < length (leaving_of arcs u)
    → (arc_index (get_or (leaving_of arcs u) i d) < length arcs)
    × (tail_of arcs (get_or (leaving_of arcs u) i d) ≡ u)
leaving_at arcs u i d l = (each_arc arcs u _).1 (Contains-get_or (leaving_of arcs u) i d l)

length-cond : (b : Bool) (y : ArcNo) → length (cond b (y ∷ []) []) ≡ cond b 1 0
length-cond true y = refl
length-cond false y = refl

marked_add : (marks : List Bool) (i : ℕ) (f g h : ℕ → ℕ) → ((u : ℕ) → f u ≡ g u + h u) →
    marked_sum marks i f ≡ marked_sum marks i g + marked_sum marks i h
marked_add [] i f g h e = omega arith
marked_add (true ∷ marks) i f g h e = let rest = marked_add marks (suc i) f g h e in let here = e i in
    omega arith
marked_add (false ∷ marks) i f g h e = let rest = marked_add marks (suc i) f g h e in omega arith

marked_past : (marks : List Bool) (i x : ℕ) → x < i → marked_sum marks i (λ u. cond (eqb x u) 1 0) ≡ 0
marked_past [] i x l = refl
marked_past (true ∷ marks) i x l = let rest = marked_past marks (suc i) x (omega arith) in
    let none : cond {A = ℕ} (eqb x i) 1 0 ≡ 0 = ap (λ b. cond b 1 0) (ne_eqb x i (λ e. absurd (omega arith)))
    in omega arith
marked_past (false ∷ marks) i x l = let rest = marked_past marks (suc i) x (omega arith) in omega arith

marked_once : (marks : List Bool) (i x : ℕ) → marked_sum marks i (λ u. cond (eqb x u) 1 0) ≤ 1
marked_once [] i x = omega arith
marked_once (true ∷ marks) i x =
    grind (arith, marked_once marks (suc i) x, cases_eq, marked_past, eq-eqb, ne_eqb)
marked_once (false ∷ marks) i x = let rest = marked_once marks (suc i) x in omega arith

marked_none : (marks : List Bool) (i : ℕ) → marked_sum marks i (λ u. 0) ≡ 0
marked_none [] i = refl
marked_none (true ∷ marks) i = let rest = marked_none marks (suc i) in omega arith
marked_none (false ∷ marks) i = let rest = marked_none marks (suc i) in omega arith

few_from : (k : ℕ) (arcs : List FlowArc) (marks : List Bool) →
    marked_sum marks 0 (λ u. length (leaving_from k arcs u)) ≤ 2 * length arcs
few_from k [] marks = let none = marked_none marks 0 in omega arith
few_from k (x ∷ arcs) marks =
    let rest = few_from (suc k) arcs marks in
    let from = marked_once marks 0 x.from in
    let to = marked_once marks 0 x.to in
    let own = marked_add marks 0 (λ u. cond (eqb x.from u) 1 0 + cond (eqb x.to u) 1 0)
    (λ u. cond (eqb x.from u) 1 0) (λ u. cond (eqb x.to u) 1 0) (λ u. refl) in
    let all = marked_add marks 0 (λ u. length (leaving_from k (x ∷ arcs) u)) (λ u. cond (eqb x.from u) 1 0
    + cond (eqb x.to u) 1 0) (λ u. length (leaving_from (suc k) arcs u))
    (λ u. length-append (own_leaving k x u) (leaving_from (suc k) arcs u)
    ∙ ap (λ n. n + length (leaving_from (suc k) arcs u))
    (length-append (cond (eqb x.from u) (Forward k ∷ []) []) (cond (eqb x.to u) (Reverse k ∷ []) [])
    ∙ ap (λ n. n + length (cond (eqb x.to u) (Reverse k ∷ []) [])) (length-cond (eqb x.from u) (Forward k))
    ∙ ap (λ n. cond (eqb x.from u) 1 0 + n) (length-cond (eqb x.to u) (Reverse k)))) in
    omega arith

pub few_looks : LooksAreFew
few_looks arcs marks = few_from 0 arcs marks

-- one node more is marked
pub marked_sum-set : (marks : List Bool) (i u : ℕ) (f : ℕ → ℕ) → u < length marks →
    get_or marks u false ≡ false
    → marked_sum (set marks u true) i f ≡ marked_sum marks i f + f (i + u)
marked_sum-set [] i u f l e = absurd (omega arith)
marked_sum-set (b ∷ marks) i zero f l e = let at : f (i + 0) ≡ f i = ap f (omega arith) in
    rw (ap (λ x. cond x (f i) 0 + marked_sum marks (suc i) f) e) (omega arith)
marked_sum-set (b ∷ marks) i (suc u) f l e =
    let rest = marked_sum-set marks (suc i) u f (omega arith) e in
    let at : f (i + suc u) ≡ f (suc i + u) = ap f (omega arith) in omega arith
