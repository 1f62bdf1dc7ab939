-- Along the way of a hole that a search back found no step costs anything once the depths have fallen.
use Rattle.std.proofs.Common.{◌≡◌, ℕ, ◌-◌, ◌^◌, ◌<◌, ◌≤◌, Some, sym, ap, ◌∙◌, subst, inl, inr, arith}
use Rattle.wave_problem.specs.Wave.{Wave}
use Rattle.tree_flow.specs.declared.nodes.End.{End}
use Rattle.tree_flow.specs.declared.nodes.TreeNode.{TreeNode}
use Rattle.tree_planner.specs.declared.back.Hollow.{Hollow}
use Rattle.tree_planner.specs.declared.back.Rest.{Rest}
use Rattle.tree_planner.specs.declared.back.Rest.TheVariants.{Free, Join}
use Rattle.tree_planner.specs.declared.back.SearchBack.{SearchBack}
use Rattle.tree_planner.specs.declared.back.StepBack.{StepBack}
use Rattle.tree_planner.specs.declared.back.StepBack.TheVariants.{Start, Rise, Sink, Over}
use Rattle.tree_flow.specs.Moves.{AreDistancesBack}
use Rattle.tree_flow.specs.Nodes.{parent}
use Rattle.tree_flow.specs.State.{State, Terms, place_of, IsKeptBut}
use Rattle.tree_planner.specs.SearchingBack.{far_at, order_at, state_at, step_at, wave_of, EndsIn, IsBefore}
use Rattle.tree_planner.specs.SearchingBack.{IsHollow}
use Rattle.tree_planner.specs.SearchingBack.{IsSearched, LeadsTo}
use Rattle.tree_planner.specs.WayBack.{IsOnWay, IsReady, IsTight, IsTightRest}
use Rattle.tree_flow.proofs.Raised.{lowers, search_back_ends}

module _ (h : Hollow) (hollow : IsHollow h) (search : SearchBack) (s : IsSearched h search)
    (hole : search.hole ≡ h.hole) where
  abbrev wave : Wave
  wave = wave_of h

  abbrev state : State
  state = state_at h

  abbrev far : TreeNode → ℕ
  far v = far_at search v

  abbrev bound : ℕ
  bound = search.bound

  kept : IsKeptBut wave state (Some h.hole)
  kept = hollow.standing.kept

  distances : AreDistancesBack wave state (λ v. far_at search v) bound
  distances = search_back_ends wave state (λ v. far_at search v) bound (Some h.hole) kept s.looked

  -- the hole could stay where it is
  ends : bound < 2 ^ 60
  ends =
      (let low = distances.low h.hole in
      let start = s.searching.start in
      let most = hollow.standing.low h.hole in
      let small = hollow.fixed.small in
      omega arith)

  module _ (new : State) (terms : new.terms ≡ state.terms) (places : new.places ≡ state.places)
      (flow : new.flow ≡ state.flow) (free : new.free ≡ state.free)
      (higher : (v : TreeNode) → new.depth v ≡ state.depth v - (bound - far v)) where
    kept_new : IsKeptBut wave new (Some h.hole)
    kept_new = lowers wave state new (λ v. far_at search v) bound (Some h.hole)
        hollow.standing.plain kept distances (record {
          terms = terms;
          places = places;
          flow = flow;
          free = free;
          depth = higher;
        })

    place_same : (t : ℕ) → place_of new t ≡ place_of state t
    place_same t = ap (λ places. place_of (record state { places = places }) t) places

    on_way : (u x : TreeNode) → IsBefore search u x → far u ≤ far x → IsOnWay search x → IsOnWay search u
    on_way u x before less x_on = record {
      settled = before.0;
      reached = (let r = x_on.reached in omega arith);
      near = (let n = x_on.near in omega arith);
    }

    earlier : (u x : TreeNode) → IsBefore search u x → IsOnWay search x
        → order_at search u < order_at search x
    earlier u x before on = elim before.1 [
      | inl none ↦ absurd (let some = on.settled in omega arith)
      | inr less ↦ less
    ]

    tight : (x : TreeNode) → IsOnWay search x → (step : StepBack) → LeadsTo h search x (far x) step
        → IsTight wave new search x step
    tight x on Start l = l ∙ sym hole
    tight x on (Rise c) l =
        let level = kept.level.down c l.room in
        let step = distances.down c l.room in
        let same_depth = ap state.depth l.above in
        let same_far = ap (λ v. far v) l.above in
        let cost = l.cost in
        let near = on.near in
        let less : far c ≤ far x = omega arith in
        let one = higher x in
        let two = higher c in
        let low_x = distances.low x in
        let low_c = distances.low c in
        record {
          known = l.known;
          hangs = l.hangs;
          above = l.above;
          tight = omega arith;
          from = on_way c x l.before less on;
          before = earlier c x l.before on;
        }
    tight x on Sink l =
        let p = parent wave.tree x in
        let level = kept.level.up x l.some in
        let step = distances.up x l.some in
        let cost = l.cost in
        let near = on.near in
        let less : far p ≤ far x = omega arith in
        let one = higher x in
        let two = higher p in
        let low_x = distances.low x in
        let low_p = distances.low p in
        record {
          hangs = l.hangs;
          tight = omega arith;
          some = (let same = ap (λ f. f x) flow in let some = l.some in omega arith);
          from = on_way p x l.before less on;
          before = earlier p x l.before on;
        }
    tight x on (Over t to) l =
        let f : End = l.from in
        let least = kept.cheapest.least t f to l.stands l.is_end in
        let step = distances.over t f to l.stands l.is_end in
        let same_far = ap (λ v. far v) l.at in
        let cost = l.cost in
        let near = on.near in
        let less : far to.node ≤ far x = omega arith in
        let one = higher to.node in
        let two = higher f.node in
        let low_to = distances.low to.node in
        let low_f = distances.low f.node in
        record {
          end = f;
          stands = place_same t ∙ l.stands;
          at = l.at;
          is_end = l.is_end;
          tight = omega arith;
          from = on_way to.node x l.before less on;
          before = earlier to.node x l.before on;
        }

    tight_rest : (goal : Rest) → EndsIn h search bound goal → IsTightRest wave new search goal
    tight_rest (Free v) e =
        let low = distances.low v in
        let near = e.near in
        let one = higher v in
        record {
          known = e.known;
          bottom = omega arith;
          from = record { settled = e.settled; reached = e.reached; near = omega arith };
        }
    tight_rest (Join t to) e =
        let low = distances.low to.node in
        let waits = distances.waits t to e.waits e.is_end in
        let least = kept.cheapest.waiting t to e.waits e.is_end in
        let near = e.near in
        let worth = ap (λ (t : Terms). t.worth) terms in
        let one = higher to.node in
        record {
          waits = place_same t ∙ e.waits;
          is_end = e.is_end;
          tight = omega arith;
          from = record { settled = e.settled; reached = e.reached; near = omega arith };
        }

    pub ready : IsReady wave new search
    ready = record {
      kept = subst (λ v. IsKeptBut wave new (Some v)) (sym hole) kept_new;
      steps = λ v on. tight v on (step_at search v) (s.searching.steps v on.reached);
      goal = tight_rest search.goal (s.searching.goal ends);
    }
