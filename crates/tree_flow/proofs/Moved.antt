-- Steps along arcs that cost nothing.
use Rattle.std.proofs.Common.{◌≡◌, ℕ, zero, suc, ◌+◌, ◌-◌, ◌<◌, ◌≤◌, Bool, true, false, cond, Option, Some, None, refl, sym, ap}
use Rattle.std.proofs.Common.{◌∙◌, subst, inl, inr, ◌⊎◌, arith, length}
use Rattle.std.proofs.Common.{get_or-set_same, get_or-set_other}
use Rattle.std.specs.Prelude.{◌≢◌}
use Rattle.std.proofs.lemmas.Bool.{cases_eq, eq-eqb, ne_eqb}
use Rattle.std.proofs.lemmas.List.{length-set}
use Rattle.std.proofs.lemmas.List.Sums.{sum_by-set}
use Rattle.rack_tree.specs.Tree.{Tree}
use Rattle.wave_problem.specs.Sums.{sum_below}
use Rattle.wave_problem.specs.Wave.{Wave}
use Rattle.wave_problem.proofs.Grouping.{sum_below-same}
use Rattle.tree_flow.specs.declared.nodes.TreeNode.{TreeNode}
use Rattle.tree_flow.specs.declared.nodes.TreeNode.TheVariants.{Worker, Rack, Centre, Cluster}
use Rattle.tree_flow.specs.declared.nodes.End.{End}
use Rattle.tree_flow.specs.Nodes.{parent, is_under, IsEnd}
use Rattle.tree_flow.specs.declared.nodes.Place.{Place}
use Rattle.tree_flow.specs.declared.nodes.Place.TheVariants.{Stands, Waits}
use Rattle.tree_flow.specs.State.{State, Terms, place_of, reach_cost, taken}
use Rattle.tree_flow.specs.State.{stands_under, standing_under, one_under, AreCheapest, AreLevel}
use Rattle.tree_flow.specs.State.{IsBalancedBut}
use Rattle.tree_flow.specs.Moves.{IsFlowSet, IsPlaced, PushesDown, PushesUp, HandsOver, SendsOff}
use Rattle.tree_flow.specs.Moves.{TakesSlot, Ships, LetsWait}

pub same_or_not : (a b : TreeNode) → (a ≡ b) ⊎ (a ≢ b)
same_or_not (Worker a) (Worker b) = elim (cases_eq a b) [ inl e ↦ inl (ap Worker e) | inr n ↦ inr (λ e. n (grind arith)) ]
same_or_not (Rack a) (Rack b) = elim (cases_eq a b) [ inl e ↦ inl (ap Rack e) | inr n ↦ inr (λ e. n (grind arith)) ]
same_or_not (Centre a) (Centre b) = elim (cases_eq a b) [ inl e ↦ inl (ap Centre e) | inr n ↦ inr (λ e. n (grind arith)) ]
same_or_not Cluster Cluster = inl refl
same_or_not a b = inr (λ e. cc)

pub under_own : (tree : Tree) (c : TreeNode) → is_under tree c c ≡ true
under_own tree (Worker w) = eq-eqb w w refl
under_own tree (Rack r) = eq-eqb r r refl
under_own tree (Centre c) = eq-eqb c c refl
under_own tree Cluster = refl

-- the parent of a node is under the others above it, and not under the node
pub parent_not_under : (tree : Tree) (c : TreeNode) → c ≢ Cluster → is_under tree (parent tree c) c ≡ false
parent_not_under tree (Worker w) off = refl
parent_not_under tree (Rack r) off = refl
parent_not_under tree (Centre c) off = refl
parent_not_under tree Cluster off = absurd (off refl)

pub parent_under : (tree : Tree) (c u : TreeNode) → u ≢ c → is_under tree c u ≡ is_under tree (parent tree c) u
parent_under tree (Worker w) (Worker x) n = ne_eqb x w (λ e. n (ap Worker e))
parent_under tree (Rack q) (Rack r) n = ne_eqb r q (λ e. n (ap Rack e))
parent_under tree (Centre d) (Centre c) n = ne_eqb c d (λ e. n (ap Centre e))
parent_under tree c u n = refl

module _ (wave : Wave) (old new : State) (c : TreeNode) (units : ℕ) (to : IsFlowSet old new c units) where
  as_before : (s : ℕ) → place_of new s ≡ place_of old s
  as_before s = ap (λ places. place_of (record old { places = places }) s) to.places

  same_reach : (s : ℕ) (e : End) → reach_cost wave new s e ≡ reach_cost wave old s e
  same_reach s e = ap (λ depth. reach_cost wave (record old { depth = depth }) s e) to.depth

  same_cheapest : AreCheapest wave old → AreCheapest wave new
  same_cheapest a = record {
    ends = λ s e stands. a.ends s e (sym (as_before s) ∙ stands);
    least = λ s e x stands is.
        (let least = a.least s e x (sym (as_before s) ∙ stands) is in
        let one = same_reach s e in
        let two = same_reach s x in
        omega arith);
    below_waiting = λ s e stands.
        (let below = a.below_waiting s e (sym (as_before s) ∙ stands) in
        let one = same_reach s e in
        let worth = ap (λ (t : Terms). t.worth) to.terms in
        omega arith);
    waiting = λ s x waits is.
        (let least = a.waiting s x (sym (as_before s) ∙ waits) is in
        let one = same_reach s x in
        let worth = ap (λ (t : Terms). t.worth) to.terms in
        omega arith);
  }

  same_level : AreLevel wave old → c ≢ Cluster → old.depth (parent wave.tree c) ≡ old.depth c → AreLevel wave new
  same_level a off tight = record {
    down = λ v room. rw to.depth (elim (same_or_not v c) [
      | inl e ↦ (let d = ap old.depth e in let p = ap (λ v. old.depth (parent wave.tree v)) e in omega arith)
      | inr n ↦ (let same = to.others v n in a.down v (omega arith))
    ]);
    up = λ v some. rw to.depth (elim (same_or_not v c) [
      | inl e ↦ (let d = ap old.depth e in let p = ap (λ v. old.depth (parent wave.tree v)) e in omega arith)
      | inr n ↦ (let same = to.others v n in a.up v (omega arith))
    ]);
    bottom = λ w known some. rw (to.terms, to.depth, to.free) (a.bottom w known (rw to.free at some));
    floor = λ w known some. rw (to.terms, to.depth, to.free) (a.floor w known (rw to.free at some));
  }

  balance : (hole hole' : Option TreeNode) → IsBalancedBut wave old hole → c ≢ Cluster
      → (units + one_under wave.tree hole' c ≡ old.flow c + one_under wave.tree hole c)
      → ((u : TreeNode) → u ≢ c → one_under wave.tree hole u ≡ one_under wave.tree hole' u)
      → IsBalancedBut wave new hole'
  balance hole hole' b off own others = record {
    size = rw to.places b.size;
    top = to.others Cluster (λ e. off (sym e)) ∙ b.top;
    each = λ v. rw (to.places, to.free) (elim (same_or_not v c) [
      | inl e ↦
          (let each = b.each v in
          let now = ap new.flow e in
          let before = ap old.flow e in
          let here = to.here in
          let one = ap (λ u. one_under wave.tree hole u) e in
          let two = ap (λ u. one_under wave.tree hole' u) e in
          omega arith)
      | inr n ↦
          (let each = b.each v in
          let same = to.others v n in
          let moved = others v n in
          omega arith)
    ]);
  }

pub pushes_down : PushesDown
pushes_down wave old new c kept off tight to =
    let here : one_under wave.tree (Some c) c ≡ 1 = ap (λ b. cond {A = ℕ} b 1 0) (under_own wave.tree c) in
    let there : one_under wave.tree (Some (parent wave.tree c)) c ≡ 0 =
    ap (λ b. cond {A = ℕ} b 1 0) (parent_not_under wave.tree c off) in
    record {
      cheapest = same_cheapest wave old new c (old.flow c + 1) to kept.cheapest;
      level = same_level wave old new c (old.flow c + 1) to kept.level off tight;
      balanced = balance wave old new c (old.flow c + 1) to (Some c) (Some (parent wave.tree c)) kept.balanced off
          (omega arith)
          (λ u n. ap (λ b. cond {A = ℕ} b 1 0) (parent_under wave.tree c u n));
      fair = rw to.terms kept.fair;
    }

pub pushes_up : PushesUp
pushes_up wave old new c kept off tight some to =
    let here : one_under wave.tree (Some c) c ≡ 1 = ap (λ b. cond {A = ℕ} b 1 0) (under_own wave.tree c) in
    let there : one_under wave.tree (Some (parent wave.tree c)) c ≡ 0 =
    ap (λ b. cond {A = ℕ} b 1 0) (parent_not_under wave.tree c off) in
    record {
      cheapest = same_cheapest wave old new c (old.flow c - 1) to kept.cheapest;
      level = same_level wave old new c (old.flow c - 1) to kept.level off tight;
      balanced = balance wave old new c (old.flow c - 1) to (Some (parent wave.tree c)) (Some c) kept.balanced off
          (omega arith)
          (λ u n. sym (ap (λ b. cond {A = ℕ} b 1 0) (parent_under wave.tree c u n)));
      fair = rw to.terms kept.fair;
    }

module _ (wave : Wave) (old new : State) (s : ℕ) (place : Place) (to : IsPlaced old new s place) where
  pub here_now : place_of new s ≡ place
  here_now = ap (λ places. place_of (record old { places = places }) s) to.places
      ∙ get_or-set_same old.places s place Waits to.known

  pub other_now : (t : ℕ) → t ≢ s → place_of new t ≡ place_of old t
  other_now t n = ap (λ places. place_of (record old { places = places }) t) to.places
      ∙ get_or-set_other old.places s t place Waits n

  placed_reach : (t : ℕ) (e : End) → reach_cost wave new t e ≡ reach_cost wave old t e
  placed_reach t e = ap (λ depth. reach_cost wave (record old { depth = depth }) t e) to.depth

  pub placed_level : AreLevel wave old → AreLevel wave new
  placed_level a = record {
    down = λ v room. rw to.depth (a.down v (rw to.flow at room));
    up = λ v some. rw to.depth (a.up v (rw to.flow at some));
    bottom = λ w known some. rw (to.terms, to.depth, to.free) (a.bottom w known (rw to.free at some));
    floor = λ w known some. rw (to.terms, to.depth, to.free) (a.floor w known (rw to.free at some));
  }

  -- what is to be shown of the split itself
  pub record OwnCheapest : Type 0 where
    pub own_end : (e : End) → place ≡ Stands e → IsEnd wave s e
        × ((x : End) → IsEnd wave s x → reach_cost wave old s e ≤ reach_cost wave old s x)
        × (reach_cost wave old s e ≤ old.terms.worth)
    pub own_wait : place ≡ Waits → (x : End) → IsEnd wave s x → old.terms.worth ≤ reach_cost wave old s x

  own_cheapest : OwnCheapest → (t : ℕ) → t ≡ s → (e : End) → place_of new t ≡ Stands e → IsEnd wave t e
      × ((x : End) → IsEnd wave t x → reach_cost wave old t e ≤ reach_cost wave old t x)
      × (reach_cost wave old t e ≤ old.terms.worth)
  own_cheapest own t is e stands =
      subst (λ t. IsEnd wave t e × ((x : End) → IsEnd wave t x → reach_cost wave old t e ≤ reach_cost wave old t x)
      × (reach_cost wave old t e ≤ old.terms.worth)) (sym is)
      (own.own_end e (sym here_now ∙ ap (λ t. place_of new t) (sym is) ∙ stands))

  own_waiting : OwnCheapest → (t : ℕ) → t ≡ s → place_of new t ≡ Waits → (x : End) → IsEnd wave t x
      → old.terms.worth ≤ reach_cost wave old t x
  own_waiting own t is waits =
      subst (λ t. (x : End) → IsEnd wave t x → old.terms.worth ≤ reach_cost wave old t x) (sym is)
      (own.own_wait (sym here_now ∙ ap (λ t. place_of new t) (sym is) ∙ waits))

  pub placed_cheapest : AreCheapest wave old → OwnCheapest → AreCheapest wave new
  placed_cheapest a own = record {
    ends = λ t e stands. elim (cases_eq t s) [
      | inl is ↦ (own_cheapest own t is e stands).0
      | inr n ↦ a.ends t e (sym (other_now t n) ∙ stands)
    ];
    least = λ t e x stands is_end.
        (let one = placed_reach t e in
        let two = placed_reach t x in
        let least : reach_cost wave old t e ≤ reach_cost wave old t x = elim (cases_eq t s) [
          | inl is ↦ (own_cheapest own t is e stands).1 x is_end
          | inr n ↦ a.least t e x (sym (other_now t n) ∙ stands) is_end
        ] in
        omega arith);
    below_waiting = λ t e stands.
        (let one = placed_reach t e in
        let worth = ap (λ (t : Terms). t.worth) to.terms in
        let below : reach_cost wave old t e ≤ old.terms.worth = elim (cases_eq t s) [
          | inl is ↦ (own_cheapest own t is e stands).2
          | inr n ↦ a.below_waiting t e (sym (other_now t n) ∙ stands)
        ] in
        omega arith);
    waiting = λ t x waits is_end.
        (let two = placed_reach t x in
        let worth = ap (λ (t : Terms). t.worth) to.terms in
        let least : old.terms.worth ≤ reach_cost wave old t x = elim (cases_eq t s) [
          | inl is ↦ own_waiting own t is waits x is_end
          | inr n ↦ a.waiting t x (sym (other_now t n) ∙ waits) is_end
        ] in
        omega arith);
  }

  pub counts : (v : TreeNode) → standing_under wave new v
      + cond {A = ℕ} (stands_under wave.tree v (place_of old s)) 1 0
      ≡ standing_under wave old v + cond {A = ℕ} (stands_under wave.tree v place) 1 0
  counts v = ap (λ places. standing_under wave (record old { places = places }) v
      + cond {A = ℕ} (stands_under wave.tree v (place_of old s)) 1 0) to.places
      ∙ sum_by-set (λ p. cond {A = ℕ} (stands_under wave.tree v p) 1 0) old.places s place Waits to.known

  pub placed_balance : (hole hole' : Option TreeNode) → IsBalancedBut wave old hole
      → ((v : TreeNode) → cond {A = ℕ} (stands_under wave.tree v (place_of old s)) 1 0 + one_under wave.tree hole v
      ≡ cond {A = ℕ} (stands_under wave.tree v place) 1 0 + one_under wave.tree hole' v)
      → IsBalancedBut wave new hole'
  placed_balance hole hole' b moved = record {
    size = ap (λ places. length places) to.places ∙ length-set old.places s place ∙ b.size;
    top = rw to.flow b.top;
    each = λ v. rw (to.flow, to.free)
        (let each = b.each v in
        let count = counts v in
        let move = moved v in
        omega arith);
  }

abbrev pub one : Bool → ℕ
one b = cond b 1 0

pub hands_over : HandsOver
hands_over wave old new s e x kept stands is tight to = record {
  cheapest = placed_cheapest wave old new s (Stands x) to kept.cheapest (record {
    own_end = λ y same.
        (let eq : x ≡ y = grind arith in
        subst (λ y. IsEnd wave s y × ((z : End) → IsEnd wave s z → reach_cost wave old s y ≤ reach_cost wave old s z)
        × (reach_cost wave old s y ≤ old.terms.worth)) eq (
          is,
          λ z end. (let least = kept.cheapest.least s e z stands end in omega arith),
          let below = kept.cheapest.below_waiting s e stands in omega arith,
        ));
    own_wait = λ same. cc;
  });
  level = placed_level wave old new s (Stands x) to kept.level;
  balanced = placed_balance wave old new s (Stands x) to (Some x.node) (Some e.node) kept.balanced
      (λ v. (let was = ap (λ p. one (stands_under wave.tree v p)) stands in omega arith));
  fair = rw to.terms kept.fair;
}

pub sends_off : SendsOff
sends_off wave old new s e kept stands tight to = record {
  cheapest = placed_cheapest wave old new s Waits to kept.cheapest (record {
    own_end = λ y same. cc;
    own_wait = λ same z end. (let least = kept.cheapest.least s e z stands end in omega arith);
  });
  level = placed_level wave old new s Waits to kept.level;
  balanced = placed_balance wave old new s Waits to None (Some e.node) kept.balanced
      (λ v. (let was = ap (λ p. one (stands_under wave.tree v p)) stands in omega arith));
  fair = rw to.terms kept.fair;
}

pub ships : Ships
ships wave old new s x kept not_yet is least below to = record {
  cheapest = placed_cheapest wave old new s (Stands x) to kept.cheapest (record {
    own_end = λ y same.
        (let eq : x ≡ y = grind arith in
        subst (λ y. IsEnd wave s y × ((z : End) → IsEnd wave s z → reach_cost wave old s y ≤ reach_cost wave old s z)
        × (reach_cost wave old s y ≤ old.terms.worth)) eq (is, least, below));
    own_wait = λ same. cc;
  });
  level = placed_level wave old new s (Stands x) to kept.level;
  balanced = placed_balance wave old new s (Stands x) to (Some x.node) None kept.balanced
      (λ v. (let was = ap (λ p. one (stands_under wave.tree v p)) not_yet in omega arith));
  fair = rw to.terms kept.fair;
}

pub lets_wait : LetsWait
lets_wait wave old new s kept not_yet least to = record {
  cheapest = placed_cheapest wave old new s Waits to kept.cheapest (record {
    own_end = λ y same. cc;
    own_wait = λ same. least;
  });
  level = placed_level wave old new s Waits to kept.level;
  balanced = placed_balance wave old new s Waits to None None kept.balanced
      (λ v. (let was = ap (λ p. one (stands_under wave.tree v p)) not_yet in omega arith));
  fair = rw to.terms kept.fair;
}

-- one worker's number falls by one
pub sum_less : (n w : ℕ) (test : ℕ → Bool) (f g : ℕ → ℕ) → w < n → g w + 1 ≡ f w → ((x : ℕ) → x ≢ w → g x ≡ f x)
    → sum_below n (λ x. cond (test x) (g x) 0) + one (test w) ≡ sum_below n (λ x. cond (test x) (f x) 0)
sum_less zero w test f g l here others = absurd (omega arith)
sum_less (suc n) w test f g l here others = elim (cases_eq w n) [
  | inl e ↦
      (let below = sum_below-same n (λ x. cond (test x) (g x) 0) (λ x. cond (test x) (f x) 0)
      (λ x m. ap (λ (y : ℕ). cond (test x) y 0) (others x (λ same. omega arith))) in
      let at : cond {A = ℕ} (test w) (g w) 0 + one (test w) ≡ cond (test w) (f w) 0 = either (test w) in
      let before = ap (λ (x : ℕ). cond {A = ℕ} (test x) (f x) 0) e in
      let after = ap (λ (x : ℕ). cond {A = ℕ} (test x) (g x) 0) e in
      omega arith)
  | inr d ↦
      (let below = sum_less n w test f g (omega arith) here others in
      let same = ap (λ (y : ℕ). cond {A = ℕ} (test n) y 0) (others n (λ same. d (sym same))) in
      omega arith)
]
  where
    either : (b : Bool) → cond {A = ℕ} b (g w) 0 + one b ≡ cond b (f w) 0
    either true = here
    either false = refl

pub takes_slot : TakesSlot
takes_slot wave old new w kept to deep = record {
  cheapest = record {
    ends = λ s e stands. kept.cheapest.ends s e (sym (same s) ∙ stands);
    least = λ s e x stands is.
        (let least = kept.cheapest.least s e x (sym (same s) ∙ stands) is in
        let one = reach s e in let two = reach s x in omega arith);
    below_waiting = λ s e stands.
        (let below = kept.cheapest.below_waiting s e (sym (same s) ∙ stands) in
        let worth = ap (λ (t : Terms). t.worth) to.terms in
        let one = reach s e in omega arith);
    waiting = λ s x waits is.
        (let least = kept.cheapest.waiting s x (sym (same s) ∙ waits) is in
        let worth = ap (λ (t : Terms). t.worth) to.terms in
        let one = reach s x in omega arith);
  };
  level = record {
    down = λ v room. rw to.depth (kept.level.down v (rw to.flow at room));
    up = λ v some. rw to.depth (kept.level.up v (rw to.flow at some));
    bottom = λ x known some. rw (to.terms, to.depth) (elim (cases_eq x w) [
      | inl e ↦
          (let here = subst (λ (z : ℕ). new.free z + 1 ≡ old.free z) (sym e) to.here in
          let before = kept.level.bottom x known (omega arith) in
          let more = kept.fair.rising x (taken wave old x) (taken wave new x) (omega arith) in
          omega arith)
      | inr n ↦ (let is = to.others x n in rw is (kept.level.bottom x known (omega arith)))
    ]);
    floor = λ x known some. rw (to.terms, to.depth) (elim (cases_eq x w) [
      | inl e ↦
          (let here = subst (λ (z : ℕ). new.free z + 1 ≡ old.free z) (sym e) to.here in
          let own = subst (λ (z : ℕ). old.terms.price z (taken wave old z) ≤ old.depth (Worker z)) (sym e) deep in
          let same : taken wave new x - 1 ≡ taken wave old x = omega arith in
          rw same own)
      | inr n ↦ (let is = to.others x n in rw is (kept.level.floor x known (omega arith)))
    ]);
  };
  balanced = record {
    size = rw to.places kept.balanced.size;
    top = rw to.flow kept.balanced.top;
    each = λ v. rw (to.places, to.flow)
        (let each = kept.balanced.each v in
        let less = sum_less (length wave.workers) w (λ x. is_under wave.tree (Worker x) v) old.free new.free to.known
        to.here to.others in
        omega arith);
  };
  fair = rw to.terms kept.fair;
}
  where
    same : (s : ℕ) → place_of new s ≡ place_of old s
    same s = ap (λ places. place_of (record old { places = places }) s) to.places

    reach : (s : ℕ) (e : End) → reach_cost wave new s e ≡ reach_cost wave old s e
    reach s e = ap (λ depth. reach_cost wave (record old { depth = depth }) s e) to.depth
