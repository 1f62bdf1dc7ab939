-- Slots that come back keep the state.
use Rattle.std.proofs.Common.{◌≡◌, ℕ, ◌+◌, ◌-◌, ◌<◌, ◌≤◌, Bool, true, false, cond, Option, Some, None, refl}
use Rattle.std.proofs.Common.{sym, ap, ◌∙◌, subst, inl, inr, arith, List, [], ◌∷◌, length, count_by, All}
use Rattle.std.specs.Prelude.{◌≢◌}
use Rattle.std.proofs.lemmas.Bool.{cases_Bool, cases_eq, eq-eqb, false≢true}
use Rattle.std.proofs.lemmas.List.Sums.{sum_by-cons}
use borrow.Author.Tests.{eqb-true}
use Rattle.rack_tree.specs.Tree.{Tree}
use Rattle.wave_problem.proofs.Grouping.{sum_below-le, sum_below-same}
use Rattle.wave_problem.specs.declared.lines.WorkerLine.{WorkerLine}
use Rattle.wave_problem.specs.Sums.{sum_below}
use Rattle.wave_problem.specs.Wave.{Wave}
use Rattle.tree_flow.specs.declared.nodes.TreeNode.{TreeNode}
use Rattle.tree_flow.specs.declared.nodes.TreeNode.TheVariants.{Worker, Rack, Centre, Cluster}
use Rattle.tree_flow.specs.declared.nodes.End.{End}
use Rattle.tree_flow.specs.Nodes.{parent, is_under, IsEnd}
use Rattle.tree_flow.specs.declared.nodes.Place.{Place}
use Rattle.tree_flow.specs.declared.nodes.Place.TheVariants.{Stands, Waits, Unshipped}
use Rattle.tree_flow.specs.State.{State, Terms, place_of, reach_cost, sum_under, slots_of, taken}
use Rattle.tree_flow.specs.State.{stands_under, standing_under, one_under, AreCheapest, AreFair, AreLevel}
use Rattle.tree_flow.specs.State.{IsFree, IsKeptBut}
use Rattle.tree_flow.specs.Slots.{GivesSlot, Joins, IsDeepened, Deepens, HasSlotMore}
use Rattle.tree_flow.specs.Slots.{AddsSlot, with_workers, TakesOff, RemovesSlot, Changes}
use Rattle.tree_flow.specs.Slots.{Begins}
use Rattle.std.proofs.lemmas.List.Elements.{All-head, All-tail}
use Rattle.tree_flow.proofs.Under.{counted, under-le, stands_known}
use Rattle.wave_problem.proofs.Bound.{pending_known}
use Rattle.tree_flow.proofs.Moved.{sum_less, one, same_or_not, under_own, placed_cheapest, placed_level}
use Rattle.tree_flow.proofs.Moved.{placed_balance}
use Rattle.tree_flow.proofs.Raised.{same_balance}

-- where only slots differ, no end is cheaper than it was
still_cheapest : (wave : Wave) (old new : State) → new.terms ≡ old.terms → new.places ≡ old.places
    → new.depth ≡ old.depth → AreCheapest wave old → AreCheapest wave new
still_cheapest wave old new terms places depth a = record {
  ends = λ s e stands. a.ends s e (sym (same s) ∙ stands);
  least = λ s e x stands is.
      (let least = a.least s e x (sym (same s) ∙ stands) is in
      let one = reach s e in let two = reach s x in omega arith);
  below_waiting = λ s e stands.
      (let below = a.below_waiting s e (sym (same s) ∙ stands) in
      let worth = ap (λ (t : Terms). t.worth) terms in
      let one = reach s e in omega arith);
  waiting = λ s x waits is.
      (let least = a.waiting s x (sym (same s) ∙ waits) is in
      let worth = ap (λ (t : Terms). t.worth) terms in
      let one = reach s x in omega arith);
}
  where
    same : (s : ℕ) → place_of new s ≡ place_of old s
    same s = ap (λ places. place_of (record old { places = places }) s) places

    reach : (s : ℕ) (e : End) → reach_cost wave new s e ≡ reach_cost wave old s e
    reach s e = ap (λ depth. reach_cost wave (record old { depth = depth }) s e) depth

pub gives_slot : GivesSlot
gives_slot wave old new w kept low to = record {
  cheapest = still_cheapest wave old new (sym to.terms) (sym to.places) (sym to.depth) kept.cheapest;
  level = record {
    down = λ v room. rw (← to.depth) (kept.level.down v (rw (← to.flow) at room));
    up = λ v some. rw (← to.depth) (kept.level.up v (rw (← to.flow) at some));
    bottom = λ x known some. rw (← to.terms, ← to.depth) (elim (cases_eq x w) [
      | inl e ↦
          (let here = subst (λ (z : ℕ). old.free z + 1 ≡ new.free z) (sym e) to.here in
          let own = subst (λ (z : ℕ). old.depth (Worker z) ≤ old.terms.price z (taken wave old z - 1)) (sym e) low in
          let same : taken wave new x ≡ taken wave old x - 1 = omega arith in
          rw same own)
      | inr n ↦ (let is = to.others x n in rw (← is) (kept.level.bottom x known (omega arith)))
    ]);
    floor = λ x known some. rw (← to.terms, ← to.depth) (elim (cases_eq x w) [
      | inl e ↦
          (let here = subst (λ (z : ℕ). old.free z + 1 ≡ new.free z) (sym e) to.here in
          let before = kept.level.floor x known (omega arith) in
          let less = kept.fair.rising x (taken wave new x - 1) (taken wave old x - 1) (omega arith) in
          omega arith)
      | inr n ↦ (let is = to.others x n in rw (← is) (kept.level.floor x known (omega arith)))
    ]);
  };
  balanced = record {
    size = rw (← to.places) kept.balanced.size;
    top = rw (← to.flow) kept.balanced.top;
    each = λ v. rw (← to.places, ← to.flow)
        (let each = kept.balanced.each v in
        let less = sum_less (length wave.workers) w (λ x. is_under wave.tree (Worker x) v) new.free old.free to.known
        to.here to.others in
        omega arith);
  };
  fair = rw (← to.terms) kept.fair;
}

pub joins : Joins
joins wave old new s x kept waits is tight to = record {
  cheapest = placed_cheapest wave old new s (Stands x) to kept.cheapest (record {
    own_end = λ y same.
        (let eq : x ≡ y = grind arith in
        subst (λ y. IsEnd wave s y × ((z : End) → IsEnd wave s z → reach_cost wave old s y ≤ reach_cost wave old s z)
        × (reach_cost wave old s y ≤ old.terms.worth)) eq (
          is,
          λ z end. (let least = kept.cheapest.waiting s z waits end in omega arith),
          omega arith,
        ));
    own_wait = λ same. cc;
  });
  level = placed_level wave old new s (Stands x) to kept.level;
  balanced = placed_balance wave old new s (Stands x) to (Some x.node) None kept.balanced
      (λ v. (let was = ap (λ p. one (stands_under wave.tree v p)) waits in omega arith));
  fair = rw to.terms kept.fair;
}

-- what is under a node is under its parent
pub under_parent : (tree : Tree) (x v : TreeNode) → is_under tree x v ≡ true → is_under tree x (parent tree v) ≡ true
under_parent tree (Worker w) (Worker v) u = grind (arith, eqb-true, eq-eqb)
under_parent tree (Worker w) (Rack r) u = grind (arith, eqb-true, eq-eqb)
under_parent tree (Rack q) (Rack r) u = grind (arith, eqb-true, eq-eqb)
under_parent tree (Rack q) (Worker r) u = absurd (false≢true u)
under_parent tree (Centre d) (Rack r) u = absurd (false≢true u)
under_parent tree (Centre d) (Worker r) u = absurd (false≢true u)
under_parent tree Cluster (Rack r) u = absurd (false≢true u)
under_parent tree Cluster (Worker r) u = absurd (false≢true u)
under_parent tree x (Centre c) u = refl
under_parent tree x Cluster u = refl

one-le : (a b : Bool) (x : ℕ) → (a ≡ true → b ≡ true) → cond {A = ℕ} a x 0 ≤ cond b x 0
one-le true b x h = rw (h refl) (omega arith)
one-le false b x h = omega arith

sum-parent : (wave : Wave) (v : TreeNode) (f : ℕ → ℕ) → sum_under wave v f ≤ sum_under wave (parent wave.tree v) f
sum-parent wave v f = sum_below-le (length wave.workers) _ _
    (λ w l. one-le (is_under wave.tree (Worker w) v) (is_under wave.tree (Worker w) (parent wave.tree v)) (f w)
    (under_parent wave.tree (Worker w) v))

place-parent : (wave : Wave) (v : TreeNode) (p : Place) → stands_under wave.tree v p ≡ true
    → stands_under wave.tree (parent wave.tree v) p ≡ true
place-parent wave v (Stands e) u = under_parent wave.tree e.node v u
place-parent wave v Waits u = absurd (false≢true u)
place-parent wave v Unshipped u = absurd (false≢true u)

count-parent : (wave : Wave) (v : TreeNode) (places : List Place)
    → count_by (λ p. stands_under wave.tree v p) places ≤ count_by (λ p. stands_under wave.tree (parent wave.tree v) p) places
count-parent wave v [] = omega arith
count-parent wave v (p ∷ places) =
    omega (
      arith,
      count-parent wave v places,
      sum_by-cons (λ p. cond {A = ℕ} (stands_under wave.tree v p) 1 0) p places,
      sum_by-cons (λ p. cond {A = ℕ} (stands_under wave.tree (parent wave.tree v) p) 1 0) p places,
      one-le (stands_under wave.tree v p) (stands_under wave.tree (parent wave.tree v) p) 1 (place-parent wave v p),
    )

one_under-parent : (tree : Tree) (hole : Option TreeNode) (v : TreeNode)
    → one_under tree hole v ≤ one_under tree hole (parent tree v)
one_under-parent tree None v = omega arith
one_under-parent tree (Some x) v =
    one-le (is_under tree x v) (is_under tree x (parent tree v)) 1 (under_parent tree x v)

module _ (wave : Wave) (old new : State) (u : TreeNode) (hole : Option TreeNode) (kept : IsKeptBut wave old hole)
    (to : IsDeepened wave old new u) where
  rises : (v : TreeNode) → old.depth v ≤ new.depth v
  rises v = elim (same_or_not v u) [
    | inl e ↦ (let here = to.here in let a = ap old.depth e in let b = ap new.depth e in omega arith)
    | inr n ↦ (let same = to.others v n in omega arith)
  ]

  same : (s : ℕ) → place_of new s ≡ place_of old s
  same s = ap (λ places. place_of (record old { places = places }) s) to.places

  -- no split stands there
  stays : (s : ℕ) (e : End) → place_of new s ≡ Stands e → new.depth e.node ≡ old.depth e.node
  stays s e stands = elim (same_or_not e.node u) [
    | inr n ↦ to.others e.node n
    | inl is ↦ absurd
        (let under = subst (λ v. is_under wave.tree e.node v ≡ true) is (under_own wave.tree e.node) in
        let some = counted wave old s e u (sym (same s) ∙ stands) under in
        let each = kept.balanced.each u in
        let full = to.full in
        omega arith)
  ]

  -- nor has a node below it room
  full_below : (v : TreeNode) → parent wave.tree v ≡ u → old.flow v < sum_under wave v (slots_of wave) → ⊥
  full_below v is room =
      let each = kept.balanced.each u in
      let own = kept.balanced.each v in
      let full = to.full in
      let standing = count-parent wave v old.places in
      let free = sum-parent wave v old.free in
      let a = ap (λ u. standing_under wave old u) is in
      let b = ap (λ u. sum_under wave u old.free) is in
      let gap = one_under-parent wave.tree hole v in
      let d = ap (λ u. one_under wave.tree hole u) is in
      omega arith

  deepened_cheapest : AreCheapest wave new
  deepened_cheapest = record {
    ends = λ s e stands. kept.cheapest.ends s e (sym (same s) ∙ stands);
    least = λ s e x stands is.
        (let least = kept.cheapest.least s e x (sym (same s) ∙ stands) is in
        let one = stays s e stands in let two = rises x.node in omega arith);
    below_waiting = λ s e stands.
        (let below = kept.cheapest.below_waiting s e (sym (same s) ∙ stands) in
        let worth = ap (λ (t : Terms). t.worth) to.terms in
        let one = stays s e stands in omega arith);
    waiting = λ s x waits is.
        (let least = kept.cheapest.waiting s x (sym (same s) ∙ waits) is in
        let worth = ap (λ (t : Terms). t.worth) to.terms in
        let one = rises x.node in omega arith);
  }

  deepened_level : AreLevel wave new
  deepened_level = record {
    down = λ v room. (let r = rw to.flow at room in
        let before = kept.level.down v r in
        let one = rises v in
        let two = to.others (parent wave.tree v) (λ is. full_below v is r) in
        omega arith);
    up = λ v some. (let r = rw to.flow at some in
        let before = kept.level.up v r in
        let two = rises (parent wave.tree v) in
        elim (same_or_not v u) [
          | inl e ↦
              (let here = to.here in
              let a = ap new.depth e in
              let b = ap old.depth e in
              let c = ap (λ v. old.depth (parent wave.tree v)) e in
              omega arith)
          | inr n ↦ (let one = to.others v n in omega arith)
        ]);
    bottom = λ w known some. rw (to.terms, to.free) (let r = rw to.free at some in
        let before = kept.level.bottom w known r in
        let other : Worker w ≢ u = λ is.
        (let under = subst (λ v. is_under wave.tree (Worker w) v ≡ true) is (under_own wave.tree (Worker w)) in
        let some = under-le wave u old.free w known under in
        let each = kept.balanced.each u in
        let full = to.full in
        omega arith) in
        let own = to.others (Worker w) other in
        omega arith);
    floor = λ w known some. rw (to.terms, to.free) (let before = kept.level.floor w known (rw to.free at some) in
        let one = rises (Worker w) in
        omega arith);
  }

pub deepens : Deepens
deepens wave old new u hole kept to = record {
  cheapest = deepened_cheapest wave old new u hole kept to;
  level = deepened_level wave old new u hole kept to;
  balanced = same_balance wave old new hole to.places to.flow to.free kept.balanced;
  fair = rw to.terms kept.fair;
}

-- where all places are free, only depths of 0 are asked of workers with free slots
free_bottom : (state : State) (w j k : ℕ) → IsFree state.terms → state.depth (Worker w) ≤ state.terms.price w j
    → state.depth (Worker w) ≤ state.terms.price w k
free_bottom state w j k free low = (let one = free w j in let two = free w k in omega arith)

free_floor : (state : State) (w k : ℕ) → IsFree state.terms → state.terms.price w k ≤ state.depth (Worker w)
free_floor state w k free = (let none = free w k in omega arith)

pub free_fair : (wave : Wave) (terms : Terms) → IsFree terms → AreFair wave terms
free_fair wave terms free = record {
  rising = λ w j k l. (let one = free w j in let two = free w k in omega arith);
  capped = λ w k l. (let one = free w k in omega arith);
}

more_slots : (wave : Wave) (workers : List WorkerLine) (w : ℕ) → HasSlotMore wave workers w → (v : TreeNode)
    → sum_under wave v (slots_of wave) + one (is_under wave.tree (Worker w) v)
    ≡ sum_under (with_workers wave workers) v (slots_of (with_workers wave workers))
more_slots wave workers w more v = sum_less (length wave.workers) w (λ x. is_under wave.tree (Worker x) v)
    (slots_of (with_workers wave workers)) (slots_of wave) more.known more.here more.others
    ∙ ap (λ n. sum_below n (λ x. cond (is_under wave.tree (Worker x) v)
    (slots_of (with_workers wave workers) x) 0)) (sym more.size)

pub adds_slot : AddsSlot
adds_slot wave workers state w free kept more above = record {
  cheapest = record {
    ends = λ s e stands. (more.ends s e).1 (kept.cheapest.ends s e stands);
    least = λ s e x stands is. kept.cheapest.least s e x stands ((more.ends s x).0 is);
    below_waiting = λ s e stands. kept.cheapest.below_waiting s e stands;
    waiting = λ s x waits is. kept.cheapest.waiting s x waits ((more.ends s x).0 is);
  };
  level = record {
    down = λ v room. (let slots = more_slots wave workers w more v in
        elim (cases_Bool (is_under wave.tree (Worker w) v)) [
          | inl under ↦ above v under
          | inr off ↦ kept.level.down v (let none = ap one off in omega arith)
        ]);
    up = λ v some. kept.level.up v some;
    bottom = λ x known some.
        free_bottom state x (taken wave state x) (taken (with_workers wave workers) state x) free
        (kept.level.bottom x (let size = more.size in omega arith) some);
    floor = λ x known some. free_floor state x (taken (with_workers wave workers) state x - 1) free;
  };
  balanced = record {
    size = kept.balanced.size;
    top = kept.balanced.top;
    each = λ v.
        (let each = kept.balanced.each v in
        let slots = more_slots wave workers w more v in
        let slack = ap (λ n. sum_below n (λ x. cond (is_under wave.tree (Worker x) v) (state.free x) 0)) more.size in
        omega arith);
  };
  fair = free_fair (with_workers wave workers) state.terms free;
}

pub takes_off : TakesOff
takes_off wave old new s e kept stands to = record {
  cheapest = placed_cheapest wave old new s Unshipped to kept.cheapest (record {
    own_end = λ y same. cc;
    own_wait = λ same. cc;
  });
  level = placed_level wave old new s Unshipped to kept.level;
  balanced = placed_balance wave old new s Unshipped to None (Some e.node) kept.balanced
      (λ v. (let was = ap (λ p. one (stands_under wave.tree v p)) stands in omega arith));
  fair = rw to.terms kept.fair;
}

pub removes_slot : RemovesSlot
removes_slot wave workers state w free kept more = record {
  cheapest = record {
    ends = λ s e stands. (more.ends s e).0 (kept.cheapest.ends s e stands);
    least = λ s e x stands is. kept.cheapest.least s e x stands ((more.ends s x).1 is);
    below_waiting = λ s e stands. kept.cheapest.below_waiting s e stands;
    waiting = λ s x waits is. kept.cheapest.waiting s x waits ((more.ends s x).1 is);
  };
  level = record {
    down = λ v room. (let slots = more_slots wave workers w more v in kept.level.down v (omega arith));
    up = λ v some. kept.level.up v some;
    bottom = λ x known some.
        free_bottom state x (taken (with_workers wave workers) state x) (taken wave state x) free
        (kept.level.bottom x (let size = more.size in omega arith) some);
    floor = λ x known some. free_floor state x (taken wave state x - 1) free;
  };
  balanced = record {
    size = kept.balanced.size;
    top = kept.balanced.top;
    each = λ v.
        (let each = kept.balanced.each v in
        let slots = more_slots wave workers w more v in
        let slack = ap (λ n. sum_below n (λ x. cond (is_under wave.tree (Worker x) v) (state.free x) 0)) more.size in
        omega arith);
  };
  fair = free_fair wave state.terms free;
}

pub changes : Changes
changes wave other state kept to = record {
  cheapest = record {
    ends = λ s e stands. ((to.others s (stands_there s e stands)).1 e).1 (kept.cheapest.ends s e stands);
    least = λ s e x stands is.
        (let same = to.others s (stands_there s e stands) in
        let least = kept.cheapest.least s e x stands ((same.1 x).0 is) in
        let one = same.0 e in
        let two = same.0 x in
        omega arith);
    below_waiting = λ s e stands.
        (let same = to.others s (stands_there s e stands) in
        let below = kept.cheapest.below_waiting s e stands in
        let one = same.0 e in
        omega arith);
    waiting = λ s x waits is.
        (let same = to.others s (λ e. cc) in
        let least = kept.cheapest.waiting s x waits ((same.1 x).0 is) in
        let two = same.0 x in
        omega arith);
  };
  level = record {
    down = λ v room. (let p = ap (λ t. state.depth (parent t v)) to.tree in
        let slots = same_slots v in
        let down = kept.level.down v (omega arith) in
        omega arith);
    up = λ v some. (let p = ap (λ t. state.depth (parent t v)) to.tree in
        let up = kept.level.up v some in
        omega arith);
    bottom = λ w known some.
        rw (to.slots w) (kept.level.bottom w (let size = to.workers in omega arith) some);
    floor = λ w known some.
        rw (to.slots w)
        (kept.level.floor w (let size = to.workers in omega arith) (let slots = to.slots w in omega arith));
  };
  balanced = record {
    size = kept.balanced.size ∙ sym to.size;
    top = kept.balanced.top;
    each = λ v.
        (let each = kept.balanced.each v in
        let slots = same_slots v in
        let free = same_sum v state.free in
        let standing = ap (λ t. count_by (λ p. stands_under t v p) state.places) to.tree in
        omega arith);
  };
  fair = record {
    rising = kept.fair.rising;
    capped = λ w k l. kept.fair.capped w k (let slots = to.slots w in omega arith);
  };
}
  where
    stands_there : (s : ℕ) (e : End) → place_of state s ≡ Stands e → place_of state s ≡ Unshipped → ⊥
    stands_there s e stands same = cc

    same_sum : (v : TreeNode) (f : ℕ → ℕ) → sum_under other v f ≡ sum_under wave v f
    same_sum v f =
        ap (λ t. sum_below (length other.workers) (λ w. cond (is_under t (Worker w) v) (f w) 0)) to.tree
        ∙ ap (λ n. sum_below n (λ w. cond (is_under wave.tree (Worker w) v) (f w) 0)) to.workers

    same_slots : (v : TreeNode) → sum_under other v (slots_of other) ≡ sum_under wave v (slots_of wave)
    same_slots v = same_sum v (slots_of other)
        ∙ sum_below-same (length wave.workers) (λ w. cond (is_under wave.tree (Worker w) v) (slots_of other w) 0)
        (λ w. cond (is_under wave.tree (Worker w) v) (slots_of wave w) 0)
        (λ w l. ap (λ z. cond (is_under wave.tree (Worker w) v) z 0) (to.slots w))

-- nothing that is listed stands or waits
unshipped : (wave : Wave) (v : TreeNode) (places : List Place) → All (λ place. place ≡ Unshipped) places
    → count_by (λ p. stands_under wave.tree v p) places ≡ 0
unshipped wave v [] all = refl
unshipped wave v (p ∷ places) all =
    omega (
      arith,
      unshipped wave v places (All-tail (λ place. place ≡ Unshipped) p places all),
      sum_by-cons (λ p. cond {A = ℕ} (stands_under wave.tree v p) 1 0) p places,
      ap (λ p. cond {A = ℕ} (stands_under wave.tree v p) 1 0) (All-head (λ place. place ≡ Unshipped) p places all),
    )

pub begins : Begins
begins wave state fresh = record {
  cheapest = record {
    ends = λ s e stands. absurd (not_yet s (Stands e) (known s e stands) stands (λ same. cc));
    least = λ s e x stands is. absurd (not_yet s (Stands e) (known s e stands) stands (λ same. cc));
    below_waiting = λ s e stands. absurd (not_yet s (Stands e) (known s e stands) stands (λ same. cc));
    waiting = λ s x waits is. absurd
        (let size = fresh.size in
        let l = pending_known wave s is.pending in
        not_yet s Waits (omega arith) waits (λ same. cc));
  };
  level = record {
    down = λ v room. (let a = fresh.depth v in let b = fresh.depth (parent wave.tree v) in omega arith);
    up = λ v some. (let none = fresh.flow v in omega arith);
    bottom = λ w known some. (let low = fresh.depth (Worker w) in omega arith);
    floor = λ w known some. absurd (let all = fresh.free w in omega arith);
  };
  balanced = record {
    size = fresh.size;
    top = fresh.flow Cluster;
    each = λ v.
        (let flow = fresh.flow v in
        let none = unshipped wave v state.places fresh.places in
        let free = sum_below-same (length wave.workers)
        (λ w. cond (is_under wave.tree (Worker w) v) (state.free w) 0)
        (λ w. cond (is_under wave.tree (Worker w) v) (slots_of wave w) 0)
        (λ w l. ap (λ z. cond (is_under wave.tree (Worker w) v) z 0) (fresh.free w)) in
        omega arith);
  };
  fair = fresh.fair;
}
  where
    known : (s : ℕ) (e : End) → place_of state s ≡ Stands e → s < length state.places
    known s e stands = stands_known state s e stands

    not_yet : (s : ℕ) (p : Place) → s < length state.places → place_of state s ≡ p → (Unshipped ≡ p → ⊥) → ⊥
    not_yet s p l is other = other (sym (fresh.places s Waits l) ∙ is)
