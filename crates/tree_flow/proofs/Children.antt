-- What is under a node is under the nodes that hang from it, or on it.
use Rattle.std.proofs.Common.{◌≡◌, ℕ, zero, suc, ◌+◌, ◌<◌, ◌≤◌, Bool, true, false, cond, None, refl}
use Rattle.std.proofs.Common.{sym, ap, ◌∙◌, inl, inr, arith, List, [], ◌∷◌, length, count_by, get_or}
use Rattle.std.specs.Prelude.{◌==◌, slice_index}
use Rattle.std.proofs.lemmas.Bool.{cases_Bool, cases_eq, cases_lt, eq-eqb, ne_eqb}
use Rattle.std.proofs.lemmas.List.Sums.{sum_by-cons, get_or-le-sum_by}
use borrow.Author.Tests.{eqb-true}
use Rattle.rack_tree.specs.Tree.{centre_at}
use Rattle.wave_problem.specs.Sums.{sum_below}
use Rattle.wave_problem.specs.Wave.{Wave}
use Rattle.wave_problem.proofs.Grouping.{sum_below-same, sum_below-zero, sum_below-add}
use Rattle.tree_flow.specs.declared.nodes.TreeNode.{TreeNode}
use Rattle.tree_flow.specs.declared.nodes.TreeNode.TheVariants.{Worker, Rack, Centre, Cluster}
use Rattle.tree_flow.specs.declared.nodes.End.{End}
use Rattle.tree_flow.specs.Nodes.{is_under, IsKnown}
use Rattle.tree_flow.specs.declared.nodes.Place.{Place}
use Rattle.tree_flow.specs.declared.nodes.Place.TheVariants.{Stands, Waits, Unshipped}
use Rattle.tree_flow.specs.State.{State, sum_under, slots_of}
use Rattle.tree_flow.specs.State.{stands_under, standing_under, IsBalancedBut}
use Rattle.tree_flow.specs.Units.{HasUnit, UnitGoesOn, NoneStands, FollowedDown}
use Rattle.tree_flow.proofs.Under.{stands_known, one_of_sum, under_worker}
use Rattle.wave_problem.specs.Assignment.{pairs_of, load}
use Rattle.tree_flow.proofs.Certified.{some_start}
use Rattle.tree_flow.proofs.Moved.{one, under_own}

-- a sum over those that pass a test
abbrev sum_of : ℕ → (ℕ → Bool) → (ℕ → ℕ) → ℕ
sum_of n test f = sum_below n (λ i. cond (test i) (f i) 0)

pub some_of_sum : (n : ℕ) (test : ℕ → Bool) (f : ℕ → ℕ) → 0 < sum_of n test f
    → (i : ℕ) × (i < n) × (test i ≡ true) × (0 < f i)
some_of_sum zero test f l = absurd (omega arith)
some_of_sum (suc n) test f l = elim (cases_lt 0 (sum_of n test f)) [
  | inl some ↦ (let found = some_of_sum n test f some in (found.0, omega arith, found.2, found.3))
  | inr none ↦ elim (cases_Bool (test n)) [
    | inl t ↦ (let last : 0 < cond {A = ℕ} (test n) (f n) 0 = omega arith in (n, omega arith, t, rw t at last))
    | inr o ↦ absurd (let last : 0 < cond {A = ℕ} (test n) (f n) 0 = omega arith in
        let nothing = rw o at last in omega arith)
  ]
]

-- the sum in which one place alone counts
sum_one : (n i : ℕ) (f : ℕ → ℕ) → i < n → sum_below n (λ k. cond (k == i) (f k) 0) ≡ f i
sum_one zero i f l = absurd (omega arith)
sum_one (suc n) i f l = elim (cases_eq n i) [
  | inl e ↦
      let none : sum_below n (λ k. cond (k == i) (f k) 0) ≡ 0 =
      sum_below-same n (λ k. cond (k == i) (f k) 0) (λ _. 0)
      (λ k l. rw (ne_eqb k i (λ d. omega arith)) refl) ∙ sum_below-zero n in
      rw (eq-eqb n i e) (omega (arith, none, ap f e))
  | inr d ↦ rw (ne_eqb n i d) (omega (arith, sum_one n i f (omega arith)))
]

sum_one-le : (n i : ℕ) (f : ℕ → ℕ) → sum_below n (λ k. cond (k == i) (f k) 0) ≤ f i
sum_one-le n i f = elim (cases_lt i n) [
  | inl l ↦ (let is = sum_one n i f l in omega arith)
  | inr past ↦
      (let none : sum_below n (λ k. cond (k == i) (f k) 0) ≡ 0 =
      sum_below-same n (λ k. cond (k == i) (f k) 0) (λ _. 0)
      (λ k l. rw (ne_eqb k i (λ d. omega arith)) refl) ∙ sum_below-zero n in
      omega arith)
]

swap : (a b : Bool) (x : ℕ) → cond {A = ℕ} a (cond b x 0) 0 ≡ cond b (cond a x 0) 0
swap true true x = refl
swap true false x = refl
swap false true x = refl
swap false false x = refl

cond-add : (b : Bool) (x y : ℕ) → cond {A = ℕ} b (x + y) 0 ≡ cond b x 0 + cond b y 0
cond-add true x y = refl
cond-add false x y = refl

cond_none : (b : Bool) → ◌≡◌ {A = ℕ} (cond b 0 0) 0
cond_none true = refl
cond_none false = refl

-- each of m numbers counts at one of n places
by_place : (test : ℕ → Bool) (at : ℕ → ℕ) (n m : ℕ) (f : ℕ → ℕ) → ((w : ℕ) → w < m → at w < n)
    → sum_of n test (λ i. sum_below m (λ w. cond (i == at w) (f w) 0))
    ≡ sum_below m (λ w. cond (test (at w)) (f w) 0)
by_place test at n zero f within =
    sum_below-same n _ (λ _. 0) (λ i l. cond_none (test i)) ∙ sum_below-zero n
by_place test at n (suc m) f within =
    let rest = by_place test at n m f (λ w l. within w (omega arith)) in
    let part = sum_below-same n
    (λ i. cond (test i) (sum_below m (λ w. cond (i == at w) (f w) 0) + cond (i == at m) (f m) 0) 0)
    (λ i. cond (test i) (sum_below m (λ w. cond (i == at w) (f w) 0)) 0
    + cond (i == at m) (cond (test i) (f m) 0) 0)
    (λ i l. cond-add (test i) (sum_below m (λ w. cond (i == at w) (f w) 0)) (cond (i == at m) (f m) 0)
    ∙ ap (λ z. cond (test i) (sum_below m (λ w. cond (i == at w) (f w) 0)) 0 + z)
    (swap (test i) (i == at m) (f m))) in
    let both = sum_below-add n (λ i. cond (test i) (sum_below m (λ w. cond (i == at w) (f w) 0)) 0)
    (λ i. cond (i == at m) (cond (test i) (f m) 0) 0) in
    let last = sum_one n (at m) (λ i. cond (test i) (f m) 0) (within m (omega arith)) in
    omega (arith, rest, part, both, last)

-- what holds at each place holds of the sums
sums : (n : ℕ) (test : ℕ → Bool) (a b c e : ℕ → ℕ) → ((i : ℕ) → a i + b i + c i ≡ e i)
    → sum_of n test a + sum_of n test b + sum_of n test c ≡ sum_of n test e
sums zero test a b c e h = refl
sums (suc n) test a b c e h =
    let rest = sums n test a b c e h in
    let last = at (test n) in
    omega arith
  where
    at : (t : Bool) → cond {A = ℕ} t (a n) 0 + cond t (b n) 0 + cond t (c n) 0 ≡ cond t (e n) 0
    at true = h n
    at false = refl

-- splits that stand on a node, and not below it
abbrev stands_on : Wave → TreeNode → Place → Bool
stands_on wave v (Stands e) = cond (is_under wave.tree v e.node) (is_under wave.tree e.node v) false
stands_on wave v Waits = false
stands_on wave v Unshipped = false

on-le : (a b : Bool) → one (cond a b false) ≤ one b
on-le true b = omega arith
on-le false b = omega arith

nowhere : (n : ℕ) (test : ℕ → Bool) → sum_of n test (λ i. 0) ≡ 0
nowhere n test = sum_below-same n _ (λ _. 0) (λ i l. cond_none (test i)) ∙ sum_below-zero n

here : (n : ℕ) (test : ℕ → Bool) (i : ℕ) → sum_of n test (λ k. one (k == i)) ≤ one (test i)
here n test i =
    let same = sum_below-same n (λ k. cond (test k) (one (k == i)) 0) (λ k. cond (k == i) (one (test k)) 0)
    (λ k l. swap (test k) (k == i) 1) in
    let most = sum_one-le n i (λ k. one (test k)) in
    omega arith

-- the nodes that hang from one: which they are of those of their kind
module _ (wave : Wave) (n : ℕ) (test : ℕ → Bool) (child : ℕ → TreeNode) (v : TreeNode)
    (each : (p : Place) → sum_of n test (λ i. one (stands_under wave.tree (child i) p)) + one (stands_on wave v p)
    ≤ one (stands_under wave.tree v p)) where
  counts : (places : List Place)
      → sum_of n test (λ i. count_by (λ p. stands_under wave.tree (child i) p) places)
      + count_by (λ p. stands_on wave v p) places ≤ count_by (λ p. stands_under wave.tree v p) places
  counts [] = (let none = nowhere n test in omega arith)
  counts (p ∷ places) =
      let rest = counts places in
      let now = each p in
      let a = sum_by-cons (λ p. one (stands_on wave v p)) p places in
      let b = sum_by-cons (λ p. one (stands_under wave.tree v p)) p places in
      let c = sum_below-same n (λ i. cond (test i) (count_by (λ p. stands_under wave.tree (child i) p) (p ∷ places)) 0)
      (λ i. cond (test i) (one (stands_under wave.tree (child i) p)) 0
      + cond (test i) (count_by (λ p. stands_under wave.tree (child i) p) places) 0)
      (λ i l. ap (λ z. cond (test i) z 0) (sum_by-cons (λ p. one (stands_under wave.tree (child i) p)) p places)
      ∙ cond-add (test i) (one (stands_under wave.tree (child i) p))
      (count_by (λ p. stands_under wave.tree (child i) p) places)) in
      let d = sum_below-add n (λ i. cond (test i) (one (stands_under wave.tree (child i) p)) 0)
      (λ i. cond (test i) (count_by (λ p. stands_under wave.tree (child i) p) places) 0) in
      omega arith

  goes_on : (state : State) → IsBalancedBut wave state None
      → ((f : ℕ → ℕ) → sum_of n test (λ i. sum_under wave (child i) f) ≡ sum_under wave v f)
      → HasUnit state v → (i : ℕ) × (i < n) × (test i ≡ true) × (0 < state.flow (child i))
  goes_on state b whole unit =
      let own = b.each v in
      let all = sums n test (λ i. state.flow (child i)) (λ i. standing_under wave state (child i))
      (λ i. sum_under wave (child i) state.free)
      (λ i. sum_under wave (child i) (slots_of wave))
      (λ i. (let at = b.each (child i) in omega arith)) in
      let free = whole state.free in
      let slots = whole (slots_of wave) in
      let count = counts state.places in
      let some : 0 < state.flow v + count_by (λ p. stands_on wave v p) state.places = elim unit [
        | inl flow ↦ omega arith
        | inr on ↦
            (let e = on.1 in
            let known = stands_known state on.0 e on.2 in
            let least = get_or-le-sum_by (λ p. one (stands_on wave v p)) state.places on.0 Waits known in
            let own = under_own wave.tree v in
            let it : one (stands_on wave v (get_or state.places on.0 Waits)) ≡ 1 =
            ap (λ p. one (stands_on wave v p)) on.2
            ∙ ap (λ u. one (cond (is_under wave.tree v u) (is_under wave.tree u v) false)) on.3
            ∙ ap (λ t. one (cond t t false)) own in
            omega arith)
      ] in
      some_of_sum n test (λ i. state.flow (child i)) (omega arith)

-- a place under a rack is under one of its workers, or on it; and so it is with centres and the cluster
abbrev Split : Wave → ℕ → (ℕ → Bool) → (ℕ → TreeNode) → TreeNode → TreeNode → Type 0
Split wave n test child v x = sum_of n test (λ i. one (is_under wave.tree x (child i)))
    + one (cond (is_under wave.tree v x) (is_under wave.tree x v) false) ≤ one (is_under wave.tree x v)

split_place : (wave : Wave) (n : ℕ) (test : ℕ → Bool) (child : ℕ → TreeNode) (v : TreeNode)
    → ((x : TreeNode) → Split wave n test child v x) → (p : Place)
    → sum_of n test (λ i. one (stands_under wave.tree (child i) p)) + one (stands_on wave v p)
    ≤ one (stands_under wave.tree v p)
split_place wave n test child v each (Stands e) = each e.node
split_place wave n test child v each Waits = (let none = nowhere n test in omega arith)
split_place wave n test child v each Unshipped = (let none = nowhere n test in omega arith)

in_rack : (wave : Wave) (u n : ℕ) (x : TreeNode)
    → Split wave n (λ i. u == slice_index wave.tree.rack_of i) (λ i. Worker i) (Rack u) x
in_rack wave u n (Worker w) =
    (let most = here n (λ i. u == slice_index wave.tree.rack_of i) w in omega arith)
in_rack wave u n (Rack q) =
    (let none = nowhere n (λ i. u == slice_index wave.tree.rack_of i) in
    let on = on-le (q == u) (u == q) in omega arith)
in_rack wave u n (Centre d) =
    (let none = nowhere n (λ i. u == slice_index wave.tree.rack_of i) in
    let on = on-le (is_under wave.tree (Rack u) (Centre d)) false in omega arith)
in_rack wave u n Cluster =
    (let none = nowhere n (λ i. u == slice_index wave.tree.rack_of i) in omega arith)

in_centre : (wave : Wave) (u n : ℕ) (x : TreeNode)
    → Split wave n (λ i. u == slice_index wave.tree.centre_of i) (λ i. Rack i) (Centre u) x
in_centre wave u n (Worker w) =
    (let most = here n (λ i. u == slice_index wave.tree.centre_of i) (slice_index wave.tree.rack_of w) in omega arith)
in_centre wave u n (Rack q) =
    (let most = here n (λ i. u == slice_index wave.tree.centre_of i) q in omega arith)
in_centre wave u n (Centre d) =
    (let none = nowhere n (λ i. u == slice_index wave.tree.centre_of i) in
    let on = on-le (d == u) (u == d) in omega arith)
in_centre wave u n Cluster =
    (let none = nowhere n (λ i. u == slice_index wave.tree.centre_of i) in omega arith)

in_cluster : (wave : Wave) (n : ℕ) (x : TreeNode) → Split wave n (λ i. true) (λ i. Centre i) Cluster x
in_cluster wave n (Worker w) = (let most = here n (λ i. true) (centre_at wave.tree w) in omega arith)
in_cluster wave n (Rack q) = (let most = here n (λ i. true) (slice_index wave.tree.centre_of q) in omega arith)
in_cluster wave n (Centre d) = (let most = here n (λ i. true) d in omega arith)
in_cluster wave n Cluster = (let none = nowhere n (λ i. true) in omega arith)

pub unit_goes_on : UnitGoesOn
unit_goes_on wave state (Worker w) known b inner unit = absurd (inner w refl)
unit_goes_on wave state (Rack u) known b inner unit =
    let n : ℕ = length wave.workers in
    let test : ℕ → Bool = λ i. u == slice_index wave.tree.rack_of i in
    let found = goes_on wave n test (λ i. Worker i) (Rack u)
    (split_place wave n test (λ i. Worker i) (Rack u) (in_rack wave u n)) state b
    (λ f. by_place test (λ w. w) n n f (λ w l. l)) unit in
    (Worker found.0, ap Rack (sym (eqb-true u (slice_index wave.tree.rack_of found.0) found.2)), found.3)
unit_goes_on wave state (Centre u) known b inner unit =
    let n : ℕ = length wave.tree.centre_of in
    let test : ℕ → Bool = λ i. u == slice_index wave.tree.centre_of i in
    let found = goes_on wave n test (λ i. Rack i) (Centre u)
    (split_place wave n test (λ i. Rack i) (Centre u) (in_centre wave u n)) state b
    (λ f. by_place test (λ w. slice_index wave.tree.rack_of w) n (length wave.workers) f known.racks) unit in
    (Rack found.0, ap Centre (sym (eqb-true u (slice_index wave.tree.centre_of found.0) found.2)), found.3)
unit_goes_on wave state Cluster known b inner unit =
    let n : ℕ = wave.tree.centres in
    let found = goes_on wave n (λ i. true) (λ i. Centre i) Cluster
    (split_place wave n (λ i. true) (λ i. Centre i) Cluster (in_cluster wave n)) state b
    (λ f. by_place (λ i. true) (λ w. centre_at wave.tree w) n (length wave.workers) f
    (λ w l. known.centres (slice_index wave.tree.rack_of w) (known.racks w l))) unit in
    (Centre found.0, refl, found.3)

-- where no split stands, no unit comes to a worker
none_stand : (wave : Wave) (v : TreeNode) (places : List Place)
    → ((s : ℕ) (e : End) → get_or places s Waits ≡ Stands e → ⊥)
    → count_by (λ p. stands_under wave.tree v p) places ≡ 0
none_stand wave v [] none = refl
none_stand wave v (p ∷ places) none =
    let rest = none_stand wave v places (λ s e is. none (suc s) e is) in
    let more = sum_by-cons (λ p. one (stands_under wave.tree v p)) p places in
    let here = first p (λ e is. none 0 e is) in
    omega arith
  where
    first : (p : Place) → ((e : End) → p ≡ Stands e → ⊥) → one (stands_under wave.tree v p) ≡ 0
    first (Stands e) off = absurd (off e refl)
    first Waits off = refl
    first Unshipped off = refl

-- a worker past the last has nothing
no_worker : (wave : Wave) (f : ℕ → ℕ) (w : ℕ) → length wave.workers ≤ w → sum_under wave (Worker w) f ≡ 0
no_worker wave f w past = sum_below-same (length wave.workers) (λ x. cond (w == x) (f x) 0) (λ _. 0)
    (λ x m. rw (ne_eqb w x (λ d. omega arith)) refl) ∙ sum_below-zero (length wave.workers)

one_of : (n : ℕ) (test : ℕ → Bool) (f : ℕ → ℕ) (i : ℕ) → i < n → test i ≡ true → f i ≤ sum_of n test f
one_of n test f i l t = let least = one_of_sum n i (λ i. cond (test i) (f i) 0) l in rw t at least

module _ (wave : Wave) (state : State) (known : IsKnown wave) (b : IsBalancedBut wave state None)
    (none : NoneStands state) where
  stays_spent : (n : ℕ) (test : ℕ → Bool) (child : ℕ → TreeNode) (v : TreeNode)
      → ((f : ℕ → ℕ) → sum_of n test (λ i. sum_under wave (child i) f) ≡ sum_under wave v f)
      → state.flow v ≡ 0 → (i : ℕ) → i < n → test i ≡ true → state.flow (child i) ≡ 0
  stays_spent n test child v whole nothing i l t =
      let own = b.each v in
      let all = sums n test (λ i. state.flow (child i)) (λ i. 0)
      (λ i. sum_under wave (child i) state.free)
      (λ i. sum_under wave (child i) (slots_of wave))
      (λ i. (let at = b.each (child i) in let stand = none_stand wave (child i) state.places none in omega arith)) in
      let free = whole state.free in
      let slots = whole (slots_of wave) in
      let stand = none_stand wave v state.places none in
      let nowhere = nowhere n test in
      let most = one_of n test (λ i. state.flow (child i)) i l t in
      omega arith

  worker_spent : (w : ℕ) → state.flow (Worker w) ≡ 0
  worker_spent w = elim (cases_lt w (length wave.workers)) [
    | inl l ↦
        (let r : ℕ = slice_index wave.tree.rack_of w in
        let c : ℕ = slice_index wave.tree.centre_of r in
        let in_racks = known.racks w l in
        let in_centres = known.centres r in_racks in
        let centre = stays_spent wave.tree.centres (λ i. true) (λ i. Centre i) Cluster
        (λ f. by_place (λ i. true) (λ w. centre_at wave.tree w) wave.tree.centres (length wave.workers) f
        (λ w l. known.centres (slice_index wave.tree.rack_of w) (known.racks w l))) b.top c in_centres refl in
        let rack = stays_spent (length wave.tree.centre_of) (λ i. c == slice_index wave.tree.centre_of i)
        (λ i. Rack i) (Centre c)
        (λ f. by_place (λ i. c == slice_index wave.tree.centre_of i) (λ w. slice_index wave.tree.rack_of w)
        (length wave.tree.centre_of) (length wave.workers) f known.racks) centre r in_racks (eq-eqb c c refl) in
        stays_spent (length wave.workers) (λ i. r == slice_index wave.tree.rack_of i) (λ i. Worker i) (Rack r)
        (λ f. by_place (λ i. r == slice_index wave.tree.rack_of i) (λ w. w) (length wave.workers)
        (length wave.workers) f (λ w l. l)) rack w l (eq-eqb r r refl))
    | inr past ↦
        (let each = b.each (Worker w) in
        let no_slots = no_worker wave (slots_of wave) w past in
        omega arith)
  ]

pub followed_down : FollowedDown
followed_down wave state left starts known b followed = record {
  size = followed.size;
  started = followed.started;
  waiting = followed.waiting;
  loads = λ w.
      (let spent = worker_spent wave left known followed.balanced followed.spent w in
      let before = b.each (Worker w) in
      let after = followed.balanced.each (Worker w) in
      let no_stand = none_stand wave (Worker w) left.places followed.spent in
      let free = followed.free w in
      elim (cases_lt w (length wave.workers)) [
        | inl l ↦
            (let one = under_worker wave left.free w l in
            let two = under_worker wave state.free w l in
            omega arith)
        | inr past ↦
            (let no_slots = no_worker wave (slots_of wave) w past in
            let no_load : load (pairs_of starts) w ≡ 0 = elim (cases_lt 0 (load (pairs_of starts) w)) [
              | inl some ↦
                  (let found = some_start 0 w starts some in
                  let l = followed.known found.0 w found.1 in
                  absurd (omega arith))
              | inr nothing ↦ omega arith
            ] in
            omega arith)
      ]);
}
