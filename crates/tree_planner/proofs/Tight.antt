-- Along the way that a search found no step costs anything once the depths have risen.
use Rattle.std.proofs.Common.{◌≡◌, ℕ, ◌+◌, ◌-◌, ◌<◌, ◌≤◌, length, min, None, refl, ap, ◌∙◌, inl, inr, arith}
use Rattle.wave_problem.specs.Wave.{Wave}
use Rattle.tree_flow.specs.declared.nodes.End.{End}
use Rattle.tree_flow.specs.declared.nodes.Place.TheVariants.{Unshipped}
use Rattle.tree_flow.specs.declared.nodes.TreeNode.{TreeNode}
use Rattle.tree_flow.specs.declared.nodes.TreeNode.TheVariants.{Worker}
use Rattle.tree_planner.specs.declared.search.Goal.{Goal}
use Rattle.tree_planner.specs.declared.search.Goal.TheVariants.{Wait, Slot, Off}
use Rattle.tree_planner.specs.declared.search.Ground.{Ground}
use Rattle.tree_planner.specs.declared.search.Search.{Search}
use Rattle.tree_planner.specs.declared.search.Step.{Step}
use Rattle.tree_planner.specs.declared.search.Step.TheVariants.{Start, Down, Up, Over}
use Rattle.tree_flow.specs.Moves.{AreDistances}
use Rattle.tree_flow.specs.Nodes.{parent, IsEnd}
use Rattle.tree_flow.specs.State.{State, Terms, place_of, reach_cost, slots_of, sum_under, taken, IsKept}
use Rattle.tree_planner.specs.Searching.{far_at, order_at, state_at, step_at, wave_of, EndsIn, IsBefore, IsGround}
use Rattle.tree_planner.specs.Searching.{next_price, IsLastOne, IsSearched, LeadsTo}
use Rattle.tree_planner.specs.Way.{IsOnWay, IsReady, IsTight, IsTightGoal}
use Rattle.tree_flow.proofs.Raised.{raises, caps, search_ends}
use Rattle.tree_flow.proofs.Under.{under_worker}

module _ (g : Ground) (ground : IsGround g) (search : Search) (s : IsSearched g search) where
  abbrev wave : Wave
  wave = wave_of g

  abbrev state : State
  state = state_at g

  abbrev far : TreeNode → ℕ
  far v = far_at search v

  abbrev bound : ℕ
  bound = search.bound

  abbrev raised : State
  raised = record state { depth = λ v. state.depth v + (bound - far v) }

  distances : AreDistances wave state (λ v. far_at search v) bound
  distances = search_ends wave state (λ v. far_at search v) bound None ground.kept s.looked

  kept_raised : IsKept wave raised
  kept_raised = raises wave state raised (λ v. far_at search v) bound None ground.kept distances (record {
    terms = refl;
    places = refl;
    flow = refl;
    free = refl;
    depth = λ v. refl;
  })

  module _ (new : State) (terms : new.terms ≡ state.terms) (places : new.places ≡ state.places)
      (flow : new.flow ≡ state.flow) (free : new.free ≡ state.free)
      (deeper : (v : TreeNode) → new.depth v ≡ min state.terms.worth (state.depth v + (bound - far v))) where
    kept_new : IsKept wave new
    kept_new = caps wave raised new None kept_raised (record {
      terms = terms;
      places = places;
      flow = flow;
      free = free;
      depth = deeper;
    })

    -- the next place of a worker costs no more than a start is worth
    next_most : (w : ℕ) → w < length wave.workers → 0 < state.free w → next_price g w ≤ state.terms.worth
    next_most w known some =
        let each = ground.kept.balanced.each (Worker w) in
        let free_here = under_worker wave state.free w known in
        let slots = under_worker wave (slots_of wave) w known in
        ground.kept.fair.capped w (taken wave state w) (omega arith)

    place_same : (t : ℕ) → place_of new t ≡ place_of state t
    place_same t = ap (λ places. place_of (record state { places = places }) t) places

    on_way : (u x : TreeNode) → IsBefore search u x → far u ≤ far x → IsOnWay search x → IsOnWay search u
    on_way u x before less x_on = record {
      settled = before.0;
      reached = (let r = x_on.reached in omega arith);
      near = (let n = x_on.near in omega arith);
    }

    earlier : (u x : TreeNode) → IsBefore search u x → IsOnWay search x → order_at search u < order_at search x
    earlier u x before on = elim before.1 [
      | inl none ↦ absurd (let some = on.settled in omega arith)
      | inr less ↦ less
    ]

    -- no end of the split costs less than the bound lets it
    start-le : (y : End) → IsEnd wave search.split y → bound + search.least ≤ reach_cost wave new search.split y
    start-le y is =
        let started = s.started y is in
        let limit = s.searching.limit in
        let most = s.searching.bound in
        let depth = deeper y.node in
        omega arith

    tight : (x : TreeNode) → IsOnWay search x → (step : Step) → LeadsTo g search x (far x) step
        → IsTight wave new search x step
    tight x on (Start level) l =
        let e : End = record { node = x; level = level } in
        let depth = deeper x in
        let cost = l.cost in
        let near = on.near in
        let limit = s.searching.limit in
        let most = s.searching.bound in
        let upper : reach_cost wave new search.split e ≤ bound + search.least = omega arith in
        record {
          is_end = l.is_end;
          least = λ y is. (let lower = start-le y is in omega arith);
          below_waiting = (let worth = ap (λ (t : Terms). t.worth) terms in omega arith);
        }
    tight x on Down l =
        let p = parent wave.tree x in
        let level = ground.kept.level.down x l.room in
        let step = distances.down x l.room in
        let cost = l.cost in
        let near = on.near in
        let less : far p ≤ far x = omega arith in
        let one = deeper x in
        let two = deeper p in
        record {
          hangs = l.hangs;
          tight = omega arith;
          from = on_way p x l.before less on;
          before = earlier p x l.before on;
        }
    tight x on (Up c) l =
        let level = ground.kept.level.up c l.some in
        let step = distances.up c l.some in
        let same_depth = ap state.depth l.above in
        let same_far = ap (λ v. far v) l.above in
        let cost = l.cost in
        let near = on.near in
        let less : far c ≤ far x = omega arith in
        let one = deeper x in
        let two = deeper c in
        record {
          known = l.known;
          hangs = l.hangs;
          above = l.above;
          tight = omega arith;
          some = (let same = ap (λ f. f c) flow in let some = l.some in omega arith);
          from = on_way c x l.before less on;
          before = earlier c x l.before on;
        }
    tight x on (Over t level) l =
        let e : End = record { node = x; level = level } in
        let f : End = l.from in
        let least = ground.kept.cheapest.least t f e l.stands l.is_end in
        let step = distances.over t f e l.stands l.is_end in
        let below = kept_raised.cheapest.below_waiting t f l.stands in
        let cost = l.cost in
        let near = on.near in
        let less : far f.node ≤ far x = omega arith in
        let one = deeper x in
        let two = deeper f.node in
        record {
          end = f;
          stands = place_same t ∙ l.stands;
          is_end = l.is_end;
          tight = omega arith;
          from = on_way f.node x l.before less on;
          before = earlier f.node x l.before on;
        }

    tight_goal : (goal : Goal) → EndsIn g search bound goal → IsLastOne search goal → IsTightGoal wave new search goal
    tight_goal Wait ends last = λ y is.
        (let lower = start-le y is in
        let limit = s.searching.limit in
        let worth = ap (λ (t : Terms). t.worth) terms in
        omega arith)
    tight_goal (Slot v) ends last = record {
      known = ends.known;
      some = (let same = ap (λ f. sum_under wave v f) free in let some = ends.slots.some in omega arith);
      cheap = λ w known under free_now.
          (let same = ap (λ (f : ℕ → ℕ). f w) free in
          let some : 0 < state.free w = omega arith in
          let price = ap (λ (t : Terms). t.price w (taken wave new w)) terms
          ∙ ap (λ (f : ℕ → ℕ). state.terms.price w (slots_of wave w - f w)) free in
          let near = ends.slots.near w known under some in
          let most = next_most w known some in
          let far = ends.near in
          let deep = deeper v in
          omega arith);
      from = record { settled = last; reached = ends.reached; near = (let near = ends.near in omega arith) };
    }
    tight_goal (Off t) ends last =
        let f : End = ends.from in
        let below = kept_raised.cheapest.below_waiting t f ends.stands in
        let before = ground.kept.cheapest.below_waiting t f ends.stands in
        let near = ends.near in
        let depth = deeper f.node in
        record {
          end = f;
          stands = place_same t ∙ ends.stands;
          tight = (let worth = ap (λ (t : Terms). t.worth) terms in omega arith);
          from = record { settled = ends.settled; reached = ends.reached; near = omega arith };
        }

    pub ready : place_of state search.split ≡ Unshipped → IsReady wave new search
    ready unshipped = record {
      kept = kept_new;
      unshipped = place_same search.split ∙ unshipped;
      steps = λ v on. tight v on (step_at search v) (s.searching.steps v on.reached);
      goal = tight_goal search.goal s.searching.goal s.searching.last;
    }
