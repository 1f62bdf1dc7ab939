-- A hole goes back along a way that costs nothing.
use Rattle.std.proofs.Common.{◌≡◌, ℕ, ◌+◌, ◌-◌, ◌≤◌, Some, sym, ap, ◌∙◌, subst, arith}
use Rattle.std.specs.Prelude.{◌≢◌}
use Rattle.wave_problem.specs.Wave.{Wave}
use Rattle.tree_flow.specs.declared.nodes.End.{End}
use Rattle.tree_flow.specs.declared.nodes.Place.TheVariants.{Stands, Waits}
use Rattle.tree_flow.specs.declared.nodes.TreeNode.{TreeNode}
use Rattle.tree_planner.specs.declared.search.Goal.{Goal}
use Rattle.tree_planner.specs.declared.search.Goal.TheVariants.{Wait, Slot, Off}
use Rattle.tree_planner.specs.declared.search.Search.{Search}
use Rattle.tree_planner.specs.declared.search.Step.{Step}
use Rattle.tree_planner.specs.declared.search.Step.TheVariants.{Start, Down, Up, Over}
use Rattle.tree_flow.specs.Moves.{IsFlowSet, IsPlaced}
use Rattle.tree_flow.specs.Nodes.{parent, IsNode}
use Rattle.tree_flow.specs.State.{State, Terms, place_of, reach_cost, IsKept, IsKeptBut}
use Rattle.tree_planner.specs.Searching.{order_at, step_at}
use Rattle.tree_planner.specs.Way.{IsFollowing, IsOnWay, IsReady, IsTight, IsTightGoal, SlotIsTight}
use Rattle.tree_flow.proofs.Moved.{pushes_down, pushes_up, hands_over, sends_off, ships, lets_wait}
use Rattle.tree_flow.proofs.Moved.{other_now}

module _ (wave : Wave) (now new : State) (search : Search) (x : TreeNode) (f : IsFollowing wave now search x) where
  pub tight_at : (step : Step) → step_at search x ≡ step → IsTight wave f.first search x step
  tight_at step e = subst (λ st. IsTight wave f.first search x st) e (f.ready.steps x f.from)

  reach_same : (t : ℕ) (e : End) → reach_cost wave now t e ≡ reach_cost wave f.first t e
  reach_same t e = ap (λ depth. reach_cost wave (record now { depth = depth }) t e) f.depth

  pub follow_down : step_at search x ≡ Down → IsNode wave.tree (parent wave.tree x)
      → IsFlowSet now new x (now.flow x + 1) → IsFollowing wave new search (parent wave.tree x)
  follow_down step known set =
      let t = tight_at Down step in
      let a = ap (λ d. d (parent wave.tree x)) f.depth in
      let b = ap (λ d. d x) f.depth in
      let tight = t.tight in
      let before = t.before in
      record {
        first = f.first;
        ready = f.ready;
        kept = pushes_down wave now new x f.kept t.hangs (omega arith) set;
        known = known;
        terms = set.terms ∙ f.terms;
        depth = set.depth ∙ f.depth;
        from = t.from;
        unshipped = ap (λ places. place_of (record now { places = places }) search.split) set.places ∙ f.unshipped;
        flows = λ c some less.
            (let other = set.others c (λ e. (let same = ap (λ v. order_at search v) e in omega arith)) in
            let most = f.flows c some (omega arith) in
            omega arith);
        places = λ t e stands less. ap (λ places. place_of (record now { places = places }) t) set.places
            ∙ f.places t e stands (omega arith);
      }

  pub follow_up : (c : TreeNode) → step_at search x ≡ Up c → IsFlowSet now new c (now.flow c - 1)
      → IsFollowing wave new search c
  follow_up c step set =
      let t = tight_at (Up c) step in
      let a = ap (λ d. d x) f.depth in
      let b = ap (λ d. d c) f.depth in
      let p = ap now.depth t.above in
      let tight = t.tight in
      let before = t.before in
      let some = t.some in
      let more = f.flows c t.from.settled before in
      record {
        first = f.first;
        ready = f.ready;
        kept = pushes_up wave now new c (subst (λ v. IsKeptBut wave now (Some v)) (sym t.above) f.kept) t.hangs
            (omega arith) (omega arith) set;
        known = t.known;
        terms = set.terms ∙ f.terms;
        depth = set.depth ∙ f.depth;
        from = t.from;
        unshipped = ap (λ places. place_of (record now { places = places }) search.split) set.places ∙ f.unshipped;
        flows = λ d some less.
            (let other = set.others d (λ e. (let same = ap (λ v. order_at search v) e in omega arith)) in
            let most = f.flows d some (omega arith) in
            omega arith);
        places = λ t e stands less. ap (λ places. place_of (record now { places = places }) t) set.places
            ∙ f.places t e stands (omega arith);
      }

  -- where the split stands that goes over
  pub stood : (t level : ℕ) → step_at search x ≡ Over t level → (e : End) × (place_of now t ≡ Stands e)
      × IsNode wave.tree e.node
  stood t level step =
      let o = tight_at (Over t level) step in (
        o.end,
        f.places t o.end o.stands o.before,
        (f.kept.cheapest.ends t o.end (f.places t o.end o.stands o.before)).known,
      )

  pub follow_over : (t level : ℕ) (e : End) → step_at search x ≡ Over t level → place_of now t ≡ Stands e
      → IsPlaced now new t (Stands (record { node = x; level = level })) → IsFollowing wave new search e.node
  follow_over t level e step stands set =
      let o = tight_at (Over t level) step in
      let to : End = record { node = x; level = level } in
      let was = f.places t o.end o.stands o.before in
      let same : o.end ≡ e = grind arith in
      let order = ap (λ (e : End). order_at search e.node) same in
      let before = o.before in
      let a = reach_same t to in
      let b = reach_same t o.end in
      let cost = ap (λ (e : End). reach_cost wave now t e) same in
      let tight = o.tight in
      let other : search.split ≢ t = λ is.
      (let a = ap (λ s. place_of now s) is in let b = f.unshipped in cc) in
      record {
        first = f.first;
        ready = f.ready;
        kept = hands_over wave now new t e to f.kept stands o.is_end (omega arith) set;
        known = (f.kept.cheapest.ends t e stands).known;
        terms = set.terms ∙ f.terms;
        depth = set.depth ∙ f.depth;
        from = subst (λ (e : End). IsOnWay search e.node) same o.from;
        unshipped = other_now wave now new t (Stands to) set search.split other ∙ f.unshipped;
        flows = λ c some less.
            (let same = ap (λ g. g c) set.flow in let most = f.flows c some (omega arith) in omega arith);
        places = λ u d stands_there less. other_now wave now new t (Stands to) set u (λ is.
            (let p = ap (λ s. place_of f.first s) is in
            let q = o.stands in
            let one : d ≡ o.end = grind arith in
            let r = ap (λ (e : End). order_at search e.node) one in
            omega arith)) ∙ f.places u d stands_there (omega arith);
      }

  pub follow_start : (level : ℕ) → step_at search x ≡ Start level
      → IsPlaced now new search.split (Stands (record { node = x; level = level })) → IsKept wave new
  follow_start level step set =
      let t = tight_at (Start level) step in
      let e : End = record { node = x; level = level } in
      let a = reach_same search.split e in
      let most = t.below_waiting in
      let worth = ap (λ (t : Terms). t.worth) f.terms in
      ships wave now new search.split e f.kept f.unshipped t.is_end
      (λ y is. (let b = reach_same search.split y in let least = t.least y is in omega arith)) (omega arith) set

module _ (wave : Wave) (old new : State) (search : Search) (r : IsReady wave old search) where
  goal_at : (goal : Goal) → search.goal ≡ goal → IsTightGoal wave old search goal
  goal_at goal e = subst (λ goal. IsTightGoal wave old search goal) e r.goal

  pub follow_wait : search.goal ≡ Wait → IsPlaced old new search.split Waits → IsKept wave new
  follow_wait goal set = lets_wait wave old new search.split r.kept r.unshipped (goal_at Wait goal) set

  pub goal_slot : (v : TreeNode) → search.goal ≡ Slot v → SlotIsTight wave old search v
  goal_slot v goal = goal_at (Slot v) goal

  pub follow_slot : (v : TreeNode) → search.goal ≡ Slot v → IsKeptBut wave new (Some v) → new.terms ≡ old.terms
      → new.places ≡ old.places → new.depth ≡ old.depth → ((c : TreeNode) → old.flow c ≤ new.flow c)
      → IsFollowing wave new search v
  follow_slot v goal kept terms places depth flows =
      let t = goal_at (Slot v) goal in
      record {
        first = old;
        ready = r;
        kept = kept;
        known = t.known;
        terms = terms;
        depth = depth;
        from = t.from;
        unshipped = ap (λ places. place_of (record old { places = places }) search.split) places ∙ r.unshipped;
        flows = λ c some less. flows c;
        places = λ t e stands less. ap (λ places. place_of (record old { places = places }) t) places ∙ stands;
      }

  pub off_stood : (t : ℕ) → search.goal ≡ Off t → (e : End) × (place_of old t ≡ Stands e)
  off_stood t goal = let o = goal_at (Off t) goal in (o.end, o.stands)

  pub follow_off : (t : ℕ) (e : End) → search.goal ≡ Off t → place_of old t ≡ Stands e → IsPlaced old new t Waits
      → IsFollowing wave new search e.node
  follow_off t e goal stands set =
      let o = goal_at (Off t) goal in
      let was = o.stands in
      let same : o.end ≡ e = grind arith in
      let cost = ap (λ (e : End). reach_cost wave old t e) same in
      let tight = o.tight in
      let other : search.split ≢ t = λ is.
      (let a = ap (λ s. place_of old s) is in let b = r.unshipped in cc) in
      record {
        first = old;
        ready = r;
        kept = sends_off wave old new t e r.kept stands (omega arith) set;
        known = (r.kept.cheapest.ends t e stands).known;
        terms = set.terms;
        depth = set.depth;
        from = subst (λ (e : End). IsOnWay search e.node) same o.from;
        unshipped = other_now wave old new t Waits set search.split other ∙ r.unshipped;
        flows = λ c some less. (let same = ap (λ g. g c) set.flow in omega arith);
        places = λ u d stands_there less. other_now wave old new t Waits set u (λ is.
            (let p = ap (λ s. place_of old s) is in
            let q = o.stands in
            let one : d ≡ o.end = grind arith in
            let r = ap (λ (e : End). order_at search e.node) one in
            let s = ap (λ (e : End). order_at search e.node) same in
            omega arith)) ∙ stands_there;
      }
