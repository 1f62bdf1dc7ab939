-- The order in which units are shipped may be any.
use Rattle.std.proofs.Common.{◌≡◌, ℕ, ◌+◌, ◌*◌, ◌<◌, Bool, true, false, List, [], ◌∷◌, ◌++◌}
use Rattle.std.proofs.Common.{length, get_or, set, take, drop, map, sym, ap, ◌∙◌, subst, inl}
use Rattle.std.proofs.Common.{inr, arith, get_or-set_same, get_or-set_other, Contains}
use Rattle.std.specs.Prelude.{nat_eq}
use Rattle.std.specs.List.{IsDistinct}
use Rattle.std.specs.List.Sorted.{IsPermutation}
use Rattle.std.specs.Cmp.{nat_eq_equiv}
use Rattle.std.proofs.Math.Seq.{take-length}
use Rattle.std.proofs.lemmas.Bool.{cases_eq, cases_lt, ne_eqb, eq-eqb, false≢true}
use Rattle.std.proofs.lemmas.List.{get_or_default, take-append-drop}
use Rattle.std.proofs.lemmas.List.Elements.{Contains-append_left, Contains-push, Contains-push_cases}
use Rattle.std.proofs.lemmas.List.Sorted.{IsPermutation-sym, IsPermutation-trans, IsPermutation-append_left}
use Rattle.std.proofs.lemmas.List.Sorted.{IsPermutation-map, Contains-permutation, length_permutation}
use Rattle.std.proofs.lemmas.List.Sorted.{sum_by-IsPermutation}
use Rattle.std.proofs.lemmas.Map.Keys.{IsDistinct-IsPermutation, IsDistinct-from_apart, apart_from_distinct}
use Rattle.flow_network.specs.declared.arcs.FlowArc.{FlowArc}
use Rattle.flow_network.specs.Flows.{inflow, outflow, unit_at}
use Rattle.augmenting_paths.specs.Shipping.{standing, CanShip, HasShipped, AreMarked}

pub standing-permutation : (w : ℕ) (xs ys : List ℕ) → IsPermutation xs ys → standing ys w ≡ standing xs w
standing-permutation w xs ys p = sum_by-IsPermutation (λ s. unit_at s w) xs ys p

-- where a member of the order stands among the sources
place : (xs ys : List ℕ) → IsPermutation xs ys → (k : ℕ) → k < length ys
    → (j : ℕ) × (j < length xs) × (get_or xs j 0 ≡ get_or ys k 0)
place xs ys p k l =
    let c = Contains-permutation ys xs (get_or ys k 0) (IsPermutation-sym xs ys p)
    (k, l, get_or_default ys k (get_or ys k 0) 0 l) in
    (c.0, c.1, get_or_default xs c.0 0 (get_or ys k 0) c.1 ∙ c.2)

module _ {nodes : ℕ} {arcs : List FlowArc} {xs ys : List ℕ} {sink : ℕ} (p : IsPermutation xs ys)
    (can : CanShip nodes arcs xs sink) where
  apart : IsDistinct nat_eq ys
  apart = IsDistinct-IsPermutation nat_eq nat_eq_equiv.symm xs ys p
      (IsDistinct-from_apart nat_eq xs (λ i j d l m. ne_eqb (get_or xs i d) (get_or xs j d) (λ e.
      (let inside : i < length xs = omega arith in
      let same = can.distinct i j inside m
      (get_or_default xs i 0 d inside ∙ e ∙ get_or_default xs j d 0 m) in absurd (omega arith)))))

  differ : (j k : ℕ) → j < k → k < length ys → get_or ys j 0 ≡ get_or ys k 0 → ⊥
  differ j k l m e = false≢true (sym (apart_from_distinct nat_eq ys j k 0 apart l m)
      ∙ eq-eqb (get_or ys j 0) (get_or ys k 0) e)

  pub order_can : CanShip nodes arcs ys sink
  order_can = record {
    arcs_in = can.arcs_in;
    paths = λ k l.
        (let at = place xs ys p k l in let w = can.paths at.0 at.1 in
        let size = length_permutation xs ys p in let room = w.room in
        record {
          out = w.out;
          on = w.on;
          out_in = w.out_in;
          on_in = w.on_in;
          leaves = w.leaves ∙ at.2;
          meets = w.meets;
          arrives = w.arrives;
          own_room = w.own_room;
          room = omega arith;
        });
    distinct = λ j k l m e. elim (cases_lt j k) [
      | inl before ↦ absurd (differ j k before m e)
      | inr past ↦ elim (cases_lt k j) [
        | inl after ↦ absurd (differ k j after l (sym e))
        | inr same ↦
            omega arith
      ]
    ];
    not_sink = λ k l e. (let at = place xs ys p k l in can.not_sink at.0 at.1 (at.2 ∙ e));
    no_entry = λ k j l m e. (let at = place xs ys p k l in can.no_entry at.0 j at.1 m (e ∙ sym at.2));
  }

-- what was shipped in one order was shipped in the other
pub order_shipped : {arcs : List FlowArc} {xs ys : List ℕ} {sink : ℕ} {flows : List ℕ} {h : ℕ → ℕ}
    → IsPermutation xs ys → HasShipped arcs ys sink (length ys) flows h
    → HasShipped arcs xs sink (length xs) flows h
order_shipped {arcs = arcs} {xs = xs} {ys = ys} {sink = sink} {flows = flows} p t =
    let size = length_permutation xs ys p in
    let balance : (w : ℕ) → inflow arcs flows w + standing (take (length xs) xs) w
    ≡ outflow arcs flows w + length xs * unit_at sink w =
    λ w. rw (take-length xs) (let all = rw (take-length ys, size) at t.balance w in
    let same = standing-permutation w xs ys p in omega arith) in
    grind arith

-- the nodes of sorted keys
pub order_sorted : (keys sorted : List (ℕ × ℕ)) (sources order : List ℕ) → map (λ p. p.1) keys ≡ sources
    → IsPermutation keys sorted → order ≡ map (λ p. p.1) sorted → IsPermutation sources order
order_sorted keys sorted sources order e p f =
    subst (λ xs. IsPermutation xs order) e (subst (λ ys. IsPermutation (map (λ p. p.1) keys) ys) (sym f)
    (IsPermutation-map (λ p. p.1) keys sorted p))

-- the first part of them turned
pub order_made : (sources order first last : List ℕ) (m : ℕ) → IsPermutation sources order
    → IsPermutation (take m order) first → last ≡ first ++ drop m order → IsPermutation sources last
order_made sources order first last m all q l =
    let turned : IsPermutation order (first ++ drop m order) =
    subst (λ ys. IsPermutation ys (first ++ drop m order)) (take-append-drop m order)
    (IsPermutation-append_left (drop m order) (take m order) first q) in
    IsPermutation-trans sources order last all (subst (λ ys. IsPermutation order ys) (sym l) turned)

pub marks_more : (xs : List ℕ) (marks : List Bool) (s : ℕ) → s < length marks → AreMarked xs marks
    → AreMarked (xs ++ s ∷ []) (set marks s true)
marks_more xs marks s l m v = (
  (λ t. elim (cases_eq v s) [
    | inl e ↦ subst (λ u. Contains (xs ++ s ∷ []) u) (sym e) (Contains-push xs s)
    | inr n ↦ Contains-append_left xs (s ∷ []) v ((m v).0 (sym (get_or-set_other marks s v true false n) ∙ t))
  ]),
  (λ c. elim (cases_eq v s) [
    | inl e ↦ ap (λ u. get_or (set marks s true) u false) e ∙ get_or-set_same marks s true false l
    | inr n ↦ elim (Contains-push_cases xs s v c) [
      | inl old ↦ get_or-set_other marks s v true false n ∙ (m v).1 old
      | inr e ↦ absurd (n (sym e))
    ]
  ]),
)

pub sources_in : {nodes : ℕ} {arcs : List FlowArc} {sources : List ℕ} {sink : ℕ} →
    CanShip nodes arcs sources sink
    → (k : ℕ) → k < length sources → get_or sources k 0 < nodes
sources_in can k l = grind arith
