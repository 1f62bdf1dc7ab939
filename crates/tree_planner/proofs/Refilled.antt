-- A hole goes along a way that costs nothing, and is filled at its end.
use Rattle.std.proofs.Common.{◌≡◌, ℕ, ◌+◌, ◌-◌, None, Option, Some, refl, sym, ap, ◌∙◌, subst, inl, inr, arith}
use Rattle.std.proofs.lemmas.Bool.{cases_eq}
use Rattle.wave_problem.specs.Wave.{Wave}
use Rattle.tree_flow.specs.declared.nodes.End.{End}
use Rattle.tree_flow.specs.declared.nodes.Place.{Place}
use Rattle.tree_flow.specs.declared.nodes.Place.TheVariants.{Stands, Unshipped}
use Rattle.tree_flow.specs.declared.nodes.TreeNode.{TreeNode}
use Rattle.tree_flow.specs.declared.nodes.TreeNode.TheVariants.{Worker}
use Rattle.tree_planner.specs.declared.back.Rest.{Rest}
use Rattle.tree_planner.specs.declared.back.Rest.TheVariants.{Free, Join}
use Rattle.tree_planner.specs.declared.back.SearchBack.{SearchBack}
use Rattle.tree_planner.specs.declared.back.StepBack.{StepBack}
use Rattle.tree_planner.specs.declared.back.StepBack.TheVariants.{Start, Rise, Sink, Over}
use Rattle.tree_flow.specs.Moves.{IsFlowSet, IsPlaced, IsTaken}
use Rattle.tree_flow.specs.Nodes.{parent}
use Rattle.tree_flow.specs.State.{State, Terms, place_of, reach_cost, IsKept, IsKeptBut}
use Rattle.tree_planner.specs.SearchingBack.{order_at, step_at}
use Rattle.tree_planner.specs.WayBack.{AreAllSame, HasMoved, IsOnWay, IsReady, IsTight, IsTightRest}
use Rattle.tree_flow.specs.Table.{at_node}
use Rattle.tree_planner.specs.declared.tables.Tables.{Tables}
use Rattle.tree_planner.specs.Engine.{IsStanding, IsStandingBut}
use Rattle.tree_planner.specs.View.{state_of, AreTables}
use Rattle.tree_flow.proofs.Given.{gives_slot, joins}
use Rattle.tree_planner.proofs.Standing.{stands_as_deep}
use Rattle.tree_flow.proofs.Moved.{pushes_down, pushes_up, hands_over, here_now, other_now}

pub all_same_trans : (a b c : State) → AreAllSame a b → AreAllSame b c → AreAllSame a c
all_same_trans a b c p q = λ t. (λ is. (p t).0 ((q t).0 is), λ is. (q t).1 ((p t).1 is))

pub all_same_places : (old new : State) → new.places ≡ old.places → AreAllSame old new
all_same_places old new same t =
    let at = ap (λ places. place_of (record old { places = places }) t) same in
    (λ is. sym at ∙ is, λ is. at ∙ is)

-- a split has gone to another place
pub all_same_placed : (wave : Wave) (old new : State) (t : ℕ) (place : Place) → IsPlaced old new t place
    → (place_of old t ≡ Unshipped → ⊥) → (place ≡ Unshipped → ⊥) → AreAllSame old new
all_same_placed wave old new t place set before after u = elim (cases_eq u t) [
  | inl e ↦
      (let now = ap (λ u. place_of new u) e ∙ here_now wave old new t place set in
      let was = ap (λ u. place_of old u) e in
      (λ is. absurd (after (sym now ∙ is)), λ is. absurd (before (sym was ∙ is))))
  | inr m ↦
      (let same = other_now wave old new t place set u m in
      (λ is. sym same ∙ is, λ is. same ∙ is))
]

module _ (wave : Wave) (first now new : State) (search : SearchBack) (x : TreeNode)
    (r : IsReady wave first search)
    (on : IsOnWay search x) where
  pub tight_to : (step : StepBack) → step_at search x ≡ step → IsTight wave first search x step
  tight_to step e = subst (λ st. IsTight wave first search x st) e (r.steps x on)

  pub moved_start : step_at search x ≡ Start → HasMoved wave first first search x
  moved_start step = record {
    kept = subst (λ v. IsKeptBut wave first (Some v)) (sym (tight_to Start step)) r.kept;
    terms = refl;
    depth = refl;
    free = refl;
    unshipped = all_same_places first first refl;
    waits = λ t is. is;
    flows = λ c less. refl;
    places = λ t e stands less. stands;
  }

  pub moved_up : (c : TreeNode) → step_at search x ≡ Rise c → HasMoved wave first now search c
      → IsFlowSet now new c (now.flow c + 1) → HasMoved wave first new search x
  moved_up c step m set =
      let t = tight_to (Rise c) step in
      let a = ap (λ d. d x) m.depth in
      let b = ap (λ d. d c) m.depth in
      let p = ap now.depth t.above in
      let tight = t.tight in
      let before = t.before in
      record {
        kept = subst (λ v. IsKeptBut wave new (Some v)) t.above
            (pushes_down wave now new c m.kept t.hangs (omega arith) set);
        terms = set.terms ∙ m.terms;
        depth = set.depth ∙ m.depth;
        free = set.free ∙ m.free;
        unshipped = all_same_trans first now new m.unshipped (all_same_places now new set.places);
        waits = λ u is. ap (λ places. place_of (record now { places = places }) u) set.places ∙ m.waits u is;
        flows = λ d less. set.others d (λ e. (let same = ap (λ v. order_at search v) e in omega arith))
            ∙ m.flows d (omega arith);
        places = λ u e stands less. ap (λ places. place_of (record now { places = places }) u) set.places
            ∙ m.places u e stands (omega arith);
      }

  pub moved_down : step_at search x ≡ Sink → HasMoved wave first now search (parent wave.tree x)
      → IsFlowSet now new x (now.flow x - 1) → HasMoved wave first new search x
  moved_down step m set =
      let t = tight_to Sink step in
      let a = ap (λ d. d (parent wave.tree x)) m.depth in
      let b = ap (λ d. d x) m.depth in
      let tight = t.tight in
      let before = t.before in
      let some = t.some in
      let same = m.flows x before in
      record {
        kept = pushes_up wave now new x m.kept t.hangs (omega arith) (omega arith) set;
        terms = set.terms ∙ m.terms;
        depth = set.depth ∙ m.depth;
        free = set.free ∙ m.free;
        unshipped = all_same_trans first now new m.unshipped (all_same_places now new set.places);
        waits = λ u is. ap (λ places. place_of (record now { places = places }) u) set.places ∙ m.waits u is;
        flows = λ d less. set.others d (λ e. (let same = ap (λ v. order_at search v) e in omega arith))
            ∙ m.flows d (omega arith);
        places = λ u e stands less. ap (λ places. place_of (record now { places = places }) u) set.places
            ∙ m.places u e stands (omega arith);
      }

  -- where the split stands that goes over
  pub stood_before : (t : ℕ) (to : End) → step_at search x ≡ Over t to
      → HasMoved wave first now search to.node
      → (e : End) × (place_of now t ≡ Stands e)
  stood_before t to step m =
      let o = tight_to (Over t to) step in
      let at = ap (λ v. order_at search v) o.at in
      let before = o.before in
      (o.end, m.places t o.end o.stands (omega arith))

  pub moved_over : (t : ℕ) (to : End) → step_at search x ≡ Over t to → HasMoved wave first now search to.node
      → IsPlaced now new t (Stands to) → HasMoved wave first new search x
  moved_over t to step m set =
      let o = tight_to (Over t to) step in
      let at = ap (λ v. order_at search v) o.at in
      let before = o.before in
      let stands = m.places t o.end o.stands (omega arith) in
      let a = ap (λ depth. reach_cost wave (record now { depth = depth }) t to) m.depth in
      let b = ap (λ depth. reach_cost wave (record now { depth = depth }) t o.end) m.depth in
      let tight = o.tight in
      record {
        kept = subst (λ v. IsKeptBut wave new (Some v)) o.at
            (hands_over wave now new t o.end to m.kept stands o.is_end (omega arith) set);
        terms = set.terms ∙ m.terms;
        depth = set.depth ∙ m.depth;
        free = set.free ∙ m.free;
        unshipped = all_same_trans first now new m.unshipped
            (all_same_placed wave now new t (Stands to) set (λ is. cc) (λ is. cc));
        waits = λ u is. other_now wave now new t (Stands to) set u (λ e.
            (let here = ap (λ u. place_of now u) e in let wait = m.waits u is in cc)) ∙ m.waits u is;
        flows = λ d less. ap (λ g. g d) set.flow ∙ m.flows d (omega arith);
        places = λ u e stands_there less. other_now wave now new t (Stands to) set u (λ is.
            (let p = ap (λ s. place_of first s) is in
            let q = o.stands in
            let one : e ≡ o.end = grind arith in
            let r = ap (λ (e : End). order_at search e.node) one in
            omega arith)) ∙ m.places u e stands_there (omega arith);
      }

-- the end of the way
module _ (wave : Wave) (first now new : State) (search : SearchBack) (r : IsReady wave first search) where
  pub rest_at : (goal : Rest) → search.goal ≡ goal → IsTightRest wave first search goal
  rest_at goal e = subst (λ goal. IsTightRest wave first search goal) e r.goal

  pub joined : (t : ℕ) (to : End) → search.goal ≡ Join t to → HasMoved wave first now search to.node
      → IsPlaced now new t (Stands to) → IsKept wave new × AreAllSame first new
  joined t to goal m set =
      let g = rest_at (Join t to) goal in
      let a = ap (λ depth. reach_cost wave (record now { depth = depth }) t to) m.depth in
      let worth = ap (λ (t : Terms). t.worth) m.terms in
      let tight = g.tight in
      let waits = m.waits t g.waits in (
        joins wave now new t to m.kept waits g.is_end (omega arith) set,
        all_same_trans first now new m.unshipped
            (all_same_placed wave now new t (Stands to) set (λ is. cc) (λ is. cc)),
      )

-- tables in which the hole has moved
pub moved_standing : (wave : Wave) (first now : Tables) (search : SearchBack) (hole : Option TreeNode) (node : TreeNode)
    → IsStandingBut wave first hole → AreTables wave now
    → HasMoved wave (state_of first) (state_of now) search node → IsStandingBut wave now (Some node)
moved_standing wave first now search hole node s tables m =
    stands_as_deep wave first now hole (Some node) s m.terms m.depth tables m.kept

-- or in which a slot has become free under the end of the way
pub freed : (wave : Wave) (first moved sunk new : Tables) (search : SearchBack) (node : TreeNode) (w : ℕ)
    → IsReady wave (state_of first) search → search.goal ≡ Free node → moved.depth ≡ first.depth
    → IsStandingBut wave sunk (Some (Worker w)) → at_node sunk.depth (Worker w) ≡ at_node moved.depth node
    → AreTables wave new → IsTaken wave (state_of new) (state_of sunk) w
    → IsStanding wave new
freed wave first moved sunk new search node w r goal depth s bottom tables taken =
    let g = rest_at wave (state_of first) (state_of first) (state_of first) search r (Free node) goal in
    let flat = g.bottom in
    let at = ap (λ d. at_node d node) depth in
    stands_as_deep wave sunk new (Some (Worker w)) None s (sym taken.terms) (sym taken.depth) tables
    (gives_slot wave (state_of sunk) (state_of new) w s.kept (omega arith) taken)
