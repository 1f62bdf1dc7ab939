-- What is read off a settled state certifies.
use Rattle.std.proofs.Common.{◌≡◌, ℕ, zero, suc, ◌+◌, ◌-◌, ◌<◌, ◌≤◌, true, cond, List, [], ◌∷◌, length}
use Rattle.std.proofs.Common.{Option, Some, None, refl, sym, ap, ◌∙◌, subst, inl, inr, ◌⊎◌, arith, unwrap_or}
use Rattle.std.specs.Prelude.{◌==◌, IsSome, slice_index, ◌≢◌}
use Rattle.std.proofs.lemmas.Bool.{cases_eq, cases_lt}
use Rattle.std.proofs.lemmas.List.Sums.{sum_by-cons}
use borrow.Author.Tests.{eqb-true}
use Rattle.rack_tree.specs.Tree.{Tree, centre_at, IsWithinReach}
use Rattle.wave_problem.specs.Wave.{Wave, IsAdmissible, IsUsable, split_at, worker_at, live_holders, cost}
use Rattle.wave_problem.specs.Assignment.{start_of, pairs_from, pairs_of, load}
use Rattle.wave_problem.proofs.Bound.{live_known}
use Rattle.price_certificate.specs.PriceList.{PriceList}
use Rattle.price_certificate.specs.declared.Condition.TheVariants.{Open, Allowed, Room, SplitPrice}
use Rattle.price_certificate.specs.declared.Condition.TheVariants.{WorkerPrice, Priced, Tight, Unstarted}
use Rattle.price_certificate.specs.declared.Condition.TheVariants.{Spare}
use Rattle.price_certificate.specs.Certificate.{charged_claim, Certifies, split_price, worker_price}
use Rattle.tree_flow.specs.declared.nodes.TreeNode.{TreeNode}
use Rattle.tree_flow.specs.declared.nodes.TreeNode.TheVariants.{Worker, Rack, Centre, Cluster}
use Rattle.tree_flow.specs.declared.nodes.End.{End}
use Rattle.tree_flow.specs.Nodes.{parent, is_under, node_above, IsEnd, end_cost, IsKnown}
use Rattle.tree_flow.specs.declared.nodes.Place.TheVariants.{Stands}
use Rattle.tree_flow.specs.State.{State, place_of, reach_cost, slots_of, taken}
use Rattle.tree_flow.specs.State.{standing_under, IsKept}
use Rattle.tree_flow.specs.Settled.{HasComeDown, IsHandedDown, deepest_above, ArePrices, EngineCertifies}
use Rattle.tree_flow.specs.Settled.{AreTermsOf, EngineIsBest}
use Rattle.price_certificate.proofs.Duality.{certified-best_by_charge}
use Rattle.tree_flow.proofs.Ends.{own_above, above_above, end_sound, end_complete}
use Rattle.tree_flow.proofs.Under.{under-le, under_worker, slots-usable, slots_under, counted}

-- a load comes from a start
pub some_start : (n w : ℕ) (starts : List (Option ℕ)) → 0 < load (pairs_from n starts) w →
    (s : ℕ) × (start_of starts s ≡ Some w)
some_start n w [] l = absurd (omega arith)
some_start n w (None ∷ rest) l = let found = some_start (n + 1) w rest l in (suc found.0, found.1)
some_start n w (Some v ∷ rest) l = elim (cases_eq v w) [
  | inl e ↦ (0, ap Some e)
  | inr d ↦ (let found =
      some_start (n + 1) w rest
      (grind (
        arith,
        sum_by-cons (λ (pair : ℕ × ℕ). cond (pair.1 == w) 1 0) (n, v)
            (pairs_from (n + 1) rest),
      )) in (suc found.0, found.1))
]

usable_or_not : (wave : Wave) (w : ℕ) → IsUsable wave.workers w ⊎ (IsUsable wave.workers w → ⊥)
usable_or_not wave w = grind arith

-- a worker is under a node where that is one of the four above it
pub which_above : (tree : Tree) (w : ℕ) (v : TreeNode) → is_under tree (Worker w) v ≡ true
    → (level : ℕ) × (level < 4) × (v ≡ node_above tree level w)
which_above tree w (Worker x) u = (0, omega arith, ap Worker (eqb-true x w u))
which_above tree w (Rack r) u = (1, omega arith, ap Rack (eqb-true r (slice_index tree.rack_of w) u))
which_above tree w (Centre c) u = (2, omega arith, ap Centre (eqb-true c (centre_at tree w) u))
which_above tree w Cluster u = (3, omega arith, refl)

module _ (wave : Wave) (state : State) (kept : IsKept wave state) where
  abbrev at : ℕ → ℕ → TreeNode
  at w level = node_above wave.tree level w

  -- a node on or under which a split stands, or that has a free slot under it, has room
  room_counted : (s : ℕ) (e : End) (v : TreeNode) → place_of state s ≡ Stands e
      → is_under wave.tree e.node v ≡ true → state.depth (parent wave.tree v) ≤ state.depth v
  room_counted s e v stands under =
      let some = counted wave state s e v stands under in
      let each = kept.balanced.each v in
      kept.level.down v (omega arith)

  room_free : (w : ℕ) (v : TreeNode) → w < length wave.workers → is_under wave.tree (Worker w) v ≡ true
      → 0 < state.free w → state.depth (parent wave.tree v) ≤ state.depth v
  room_free w v known under free =
      let some = under-le wave v state.free w known under in
      let each = kept.balanced.each v in
      kept.level.down v (omega arith)

  -- nothing above a worker with a free slot lies deeper than its next place costs
  free_at : (w : ℕ) → w < length wave.workers → 0 < state.free w
      → deepest_above wave.tree state w ≤ state.terms.price w (taken wave state w)
  free_at w known free =
      let bottom = kept.level.bottom w known free in
      let one = room_free w (at w 0) known (own_above wave.tree 0 w) free in
      let two = room_free w (at w 1) known (own_above wave.tree 1 w) free in
      let three = room_free w (at w 2) known (own_above wave.tree 2 w) free in
      omega arith

  -- nothing above a worker lies deeper than a node from which a unit has come down to it, and above which
  -- there is room
  abbrev HasRoomAbove : TreeNode → Type 0
  HasRoomAbove v = (u : TreeNode) → is_under wave.tree v u ≡ true
      → state.depth (parent wave.tree u) ≤ state.depth u

  down_step : (v : TreeNode) (w level : ℕ) → HasComeDown wave.tree state v w
      → is_under wave.tree (at w level) v ≡ true → at w level ≢ v
      → state.depth (at w level) ≤ state.depth (parent wave.tree (at w level))
  down_step v w level down under other =
      kept.level.up (at w level) (down.flows (at w level) (own_above wave.tree level w) under other)

  come_down_at : (level w : ℕ) → level < 4 → HasRoomAbove (at w level)
      → HasComeDown wave.tree state (at w level) w
      → deepest_above wave.tree state w ≤ state.depth (at w level)
  come_down_at zero w l room down =
      let one = room (at w 0) (above_above wave.tree w 0 0 (omega arith) (omega arith)) in
      let two = room (at w 1) (above_above wave.tree w 0 1 (omega arith) (omega arith)) in
      let three = room (at w 2) (above_above wave.tree w 0 2 (omega arith) (omega arith)) in
      omega arith
  come_down_at (suc zero) w l room down =
      let one = down_step (at w 1) w 0 down (above_above wave.tree w 0 1 (omega arith) (omega arith)) (λ e. cc) in
      let two = room (at w 1) (above_above wave.tree w 1 1 (omega arith) (omega arith)) in
      let three = room (at w 2) (above_above wave.tree w 1 2 (omega arith) (omega arith)) in
      omega arith
  come_down_at (suc (suc zero)) w l room down =
      let one = down_step (at w 2) w 0 down (above_above wave.tree w 0 2 (omega arith) (omega arith)) (λ e. cc) in
      let two = down_step (at w 2) w 1 down (above_above wave.tree w 1 2 (omega arith) (omega arith)) (λ e. cc) in
      let three = room (at w 2) (above_above wave.tree w 2 2 (omega arith) (omega arith)) in
      omega arith
  come_down_at (suc (suc (suc zero))) w l room down =
      let one = down_step (at w 3) w 0 down refl (λ e. cc) in
      let two = down_step (at w 3) w 1 down refl (λ e. cc) in
      let three = down_step (at w 3) w 2 down refl (λ e. cc) in
      omega arith
  come_down_at (suc (suc (suc (suc level)))) w l room down = absurd (omega arith)

  -- so it is with the end of a split
  come_down : (s w : ℕ) (e : End) → place_of state s ≡ Stands e → HasComeDown wave.tree state e.node w
      → deepest_above wave.tree state w ≤ state.depth e.node
  come_down s w e stands down =
      let is = which_above wave.tree w e.node down.under in
      let from : HasRoomAbove e.node × HasComeDown wave.tree state e.node w =
      ((λ u under. room_counted s e u stands under), down) in
      let there = subst (λ v. HasRoomAbove v × HasComeDown wave.tree state v w) is.2 from in
      let low = come_down_at is.0 w is.1 there.0 there.1 in
      let same = ap state.depth is.2 in
      omega arith

  -- and such a worker has slots
  some_unit : (s w level : ℕ) (e : End) → place_of state s ≡ Stands e
      → HasComeDown wave.tree state e.node w → level < 4 → e.node ≡ at w level
      → 0 < state.flow (Worker w) + standing_under wave state (Worker w)
  some_unit s w zero e stands down l is =
      let under = subst (λ v. is_under wave.tree v (Worker w) ≡ true) (sym is) (own_above wave.tree 0 w) in
      let some = counted wave state s e (Worker w) stands under in omega arith
  some_unit s w (suc level) e stands down l is =
      let under = subst (λ v. is_under wave.tree (Worker w) v ≡ true) (sym is)
      (above_above wave.tree w 0 (suc level) (omega arith) l) in
      let some = down.flows (Worker w) (own_above wave.tree 0 w) under
      (λ same. off level (same ∙ is)) in
      omega arith
    where
      off : (level : ℕ) → Worker w ≡ at w (suc level) → ⊥
      off zero same = cc
      off (suc zero) same = cc
      off (suc (suc level)) same = cc

  usable : (s w : ℕ) (e : End) → place_of state s ≡ Stands e → HasComeDown wave.tree state e.node w
      → IsUsable wave.workers w
  usable s w e stands down =
      let is = which_above wave.tree w e.node down.under in
      let some = some_unit s w is.0 e stands down is.1 is.2 in
      let each = kept.balanced.each (Worker w) in
      slots_under wave w (omega arith)

  -- an end above a worker lies no deeper than the deepest there
  above-le : (w : ℕ) (v : TreeNode) → is_under wave.tree (Worker w) v ≡ true
      → state.depth v ≤ deepest_above wave.tree state w
  above-le w (Worker x) u = let same = ap (λ (x : ℕ). state.depth (Worker x)) (eqb-true x w u) in omega arith
  above-le w (Rack r) u =
      let same = ap (λ (x : ℕ). state.depth (Rack x)) (eqb-true r (slice_index wave.tree.rack_of w) u) in
      omega arith
  above-le w (Centre c) u =
      let same = ap (λ (x : ℕ). state.depth (Centre x)) (eqb-true c (centre_at wave.tree w) u) in omega arith
  above-le w Cluster u = omega arith

  module _ (starts : List (Option ℕ)) (prices : PriceList) (near : IsWithinReach wave.tree) (known : IsKnown wave)
      (handed : IsHandedDown wave state starts) (priced : ArePrices wave state starts prices) where
    abbrev price : ℕ → ℕ → ℕ
    price s w = unwrap_or (cost wave s w) 0

    starts_usable : (s w : ℕ) → start_of starts s ≡ Some w → IsUsable wave.workers w
    starts_usable s w e = let from = handed.started s w e in usable s w from.0 from.1 from.2

    admissible : (s w : ℕ) → start_of starts s ≡ Some w → IsAdmissible wave s w
    admissible s w e = let from = handed.started s w e in
        (end_sound wave s w from.0 (kept.cheapest.ends s from.0 from.1) (starts_usable s w e) from.2.under).0

    -- a start and its worker's price cost no more than its end, and that no more than a start is worth
    worth : (s w : ℕ) → start_of starts s ≡ Some w → (e : End) × (place_of state s ≡ Stands e)
        × (price s w + worker_price prices w ≤ reach_cost wave state s e)
    worth s w e = let from = handed.started s w e in
        let u = starts_usable s w e in
        let cheap = (end_sound wave s w from.0 (kept.cheapest.ends s from.0 from.1) u from.2.under).1 in
        let low = come_down s w from.0 from.1 from.2 in
        let same = priced.usable w u in
        (from.0, from.1, omega arith)

    fits : (s w : ℕ) → start_of starts s ≡ Some w → price s w + worker_price prices w ≤ state.terms.worth
    fits s w e = let own = worth s w e in let most = own.2 in
        let less = kept.cheapest.below_waiting s own.0 own.1 in omega arith

    room : (w : ℕ) → load (pairs_of starts) w ≤ (worker_at wave w).free
    room w = elim (cases_lt 0 (load (pairs_of starts) w)) [
      | inr n ↦ omega arith
      | inl l ↦
          (let loads = handed.loads w in
          let each = kept.balanced.each (Worker w) in
          let u = slots_under wave w (omega arith) in
          let own = under_worker wave (slots_of wave) w (live_known wave w u.0) in
          let slots = slots-usable wave w u in
          omega arith)
    ]

    -- the starts of a usable worker and its free slots are all its slots
    loaded : (w : ℕ) → IsUsable wave.workers w → load (pairs_of starts) w + state.free w ≡ (worker_at wave w).free
    loaded w u =
        let known = live_known wave w u.0 in
        let loads = handed.loads w in
        let each = kept.balanced.each (Worker w) in
        let own = under_worker wave (slots_of wave) w known in
        let own_free = under_worker wave state.free w known in
        let slots = slots-usable wave w u in
        omega arith

    -- so that its starts take the places that are taken
    taken_is : (w : ℕ) → IsUsable wave.workers w → taken wave state w ≡ load (pairs_of starts) w
    taken_is w u = (let all = loaded w u in let slots = slots-usable wave w u in omega arith)

    last_taken : (w : ℕ) → 0 < load (pairs_of starts) w
        → state.terms.price w (load (pairs_of starts) w - 1) ≤ worker_price prices w
    last_taken w l =
        let loads = handed.loads w in
        let each = kept.balanced.each (Worker w) in
        let u = slots_under wave w (omega arith) in
        let all = loaded w u in
        let slots = slots-usable wave w u in
        let floor = kept.level.floor w (live_known wave w u.0) (omega arith) in
        let same = ap (λ (k : ℕ). state.terms.price w (k - 1)) (taken_is w u) in
        let price = priced.usable w u in
        omega arith

    first_left : (w : ℕ) → load (pairs_of starts) w < (worker_at wave w).free
        → worker_price prices w ≤ state.terms.price w (load (pairs_of starts) w)
    first_left w l = elim (usable_or_not wave w) [
      | inr n ↦ (let none = priced.unusable w n in omega arith)
      | inl u ↦
          (let all = loaded w u in
          let low = free_at w (live_known wave w u.0) (omega arith) in
          let same = ap (λ (k : ℕ). state.terms.price w k) (taken_is w u) in
          let price = priced.usable w u in
          omega arith)
    ]

    open_at : (s : ℕ) (o : Option ℕ) → start_of starts s ≡ o → IsSome o →
        ((split_at wave s).pending ≡ true) × (0 < length (live_holders wave s))
    open_at s None e some = cc
    open_at s (Some w) e some = let a = admissible s w e in (a.pending, a.held)

    split_price_at : (s : ℕ) (o : Option ℕ) → start_of starts s ≡ o → split_price prices s ≤ state.terms.worth
    split_price_at s None e = let p = priced.unstarted s e in omega arith
    split_price_at s (Some w) e = let p = priced.started s w e in omega arith

    worker_price_at : (w : ℕ) → worker_price prices w ≤ state.terms.worth
    worker_price_at w = elim (usable_or_not wave w) [
      | inr n ↦ (let p = priced.unusable w n in omega arith)
      | inl u ↦ elim (cases_lt (load (pairs_of starts) w) (worker_at wave w).free) [
        | inl l ↦
            (let low = first_left w l in
            let slots = slots-usable wave w u in
            let most = kept.fair.capped w (load (pairs_of starts) w) (omega arith) in
            omega arith)
        | inr f ↦
            (let some = u.1 in
            let found = some_start 0 w starts (omega arith) in
            let fit = fits found.0 w found.1 in omega arith)
      ]
    ]

    priced_at_all : (s w : ℕ) (o : Option ℕ) → start_of starts s ≡ o → IsAdmissible wave s w →
        state.terms.worth ≤ split_price prices s + worker_price prices w + price s w
    priced_at_all s w o e a =
        let offer = end_complete wave s w near known a in
        let cheap = offer.3 in
        let low = above-le w offer.0.node offer.2 in
        let same = priced.usable w (a.live, a.has_slot) in
        go o e offer.0 offer.1 cheap low same
      where
        go : (o : Option ℕ) → start_of starts s ≡ o → (x : End) → IsEnd wave s x
            → end_cost wave s x ≤ price s w → state.depth x.node ≤ deepest_above wave.tree state w
            → worker_price prices w ≡ deepest_above wave.tree state w
            → state.terms.worth ≤ split_price prices s + worker_price prices w + price s w
        go None e x is cheap low same =
            let waits = kept.cheapest.waiting s x (handed.waiting s e) is in omega arith
        go (Some v) e x is cheap low same =
            let own = worth s v e in
            let bound = own.2 in
            let least = kept.cheapest.least s own.0 x own.1 is in
            let p = priced.started s v e in
            omega arith

    tight : (s w : ℕ) → start_of starts s ≡ Some w → split_price prices s + worker_price prices w + price s w
        ≡ state.terms.worth
    tight s w e = let p = priced.started s w e in let f = fits s w e in omega arith

    certifies : (places : List (List ℕ)) → AreTermsOf wave places state.terms
        → Certifies (charged_claim wave places starts prices)
    certifies places are (Open s) = open_at s (start_of starts s) refl
    certifies places are (Allowed s w) = λ e. (let a = admissible s w e in (a.live, a.not_barred))
    certifies places are (Room w) = room w
    certifies places are (SplitPrice s) = omega (arith, are.worth, split_price_at s (start_of starts s) refl)
    certifies places are (WorkerPrice w) = omega (arith, are.worth, worker_price_at w)
    certifies places are (Priced s w) = λ a. omega (arith, are.worth, priced_at_all s w (start_of starts s) refl a)
    certifies places are (Tight s w) = λ e. omega (arith, are.worth, tight s w e)
    certifies places are (Unstarted s) = priced.unstarted s
    certifies places are (Spare w) = record {
      taken = λ l. omega (arith, last_taken w l, are.price w (load (pairs_of starts) w - 1));
      left = λ l. omega (arith, first_left w l, are.price w (load (pairs_of starts) w));
    }

pub engine_certifies : EngineCertifies
engine_certifies wave places state starts prices are near known kept handed priced =
    certifies wave state kept starts prices near known handed priced places are

pub engine_is_best : EngineIsBest
engine_is_best wave places state starts prices fit are near known kept handed priced =
    certified-best_by_charge (charged_claim wave places starts prices) near fit
    (engine_certifies wave places state starts prices are near known kept handed priced)
