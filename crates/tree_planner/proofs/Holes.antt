-- From a hole above the workers units go down to a node that hangs from it.
use Rattle.std.proofs.Common.{◌≡◌, ℕ, ◌+◌, ◌<◌, ◌∷◌, [], ◌++◌, false, None, Some, length, get_or}
use Rattle.std.proofs.Common.{refl, sym, ap, ◌∙◌}
use Rattle.std.proofs.Common.{inr, length-append, arith}
use Rattle.std.specs.Prelude.{◌≢◌}
use Rattle.std.proofs.lemmas.List.{get_or_push}
use Rattle.std.proofs.lemmas.List.Sums.{sum_by-append, sum_by-cons}
use Rattle.wave_problem.specs.Wave.{Split, Wave}
use Rattle.tree_flow.specs.declared.nodes.End.{End}
use Rattle.tree_flow.specs.declared.nodes.Place.TheVariants.{Stands, Waits}
use Rattle.tree_flow.specs.declared.nodes.TreeNode.{TreeNode}
use Rattle.tree_flow.specs.declared.nodes.TreeNode.TheVariants.{Worker}
use Rattle.tree_flow.specs.Nodes.{is_under, parent, IsKnown}
use Rattle.tree_flow.specs.State.{State, slots_of, stands_under, standing_under, IsBalancedBut}
use Rattle.tree_flow.proofs.Children.{unit_goes_on}
use Rattle.tree_flow.proofs.Moved.{one}
use Rattle.tree_planner.specs.declared.children.Children.{Children}
use Rattle.tree_planner.specs.Hanging.{hanging, AreChildren}
use Rattle.tree_planner.proofs.Looked.{at_each, room_known}

-- a split more, which stands in the hole, balances the state
module _ (wave : Wave) (state : State) (v : TreeNode) (known : IsKnown wave)
    (b : IsBalancedBut wave state (Some v)) where
  abbrev there : End
  there = record { node = v; level = 0 }

  abbrev more : Split
  more = record { bytes = 0; pending = false; holders = [] }

  abbrev wider : Wave
  wider = record wave { splits = wave.splits ++ more ∷ [] }

  abbrev filled : State
  filled = record state { places = state.places ++ Stands there ∷ [] }

  count : (u : TreeNode) → standing_under wider filled u
      ≡ standing_under wave state u + one (is_under wave.tree v u)
  count u =
      let both = sum_by-append (λ p. one (stands_under wave.tree u p)) state.places (Stands there ∷ []) in
      let last = sum_by-cons (λ p. one (stands_under wave.tree u p)) (Stands there) [] in
      omega arith

  balanced : IsBalancedBut wider filled None
  balanced = record {
    size = length-append state.places (Stands there ∷ []) ∙ ap (λ (n : ℕ). n + 1) b.size
        ∙ sym (length-append wave.splits (more ∷ []));
    top = b.top;
    each = λ u. (let each = b.each u in let count = count u in omega arith);
  }

  pub hole_goes_on : ((w : ℕ) → v ≢ Worker w) → (c : TreeNode) × (parent wave.tree c ≡ v) × (0 < state.flow c)
  hole_goes_on inner = unit_goes_on wider filled v
      (record { lines = known.lines; racks = known.racks; centres = known.centres }) balanced inner
      (inr (
        length state.places,
        there,
        get_or_push state.places (Stands there) Waits
            (length state.places) refl,
        refl,
      ))

-- it is found among the nodes that hang from the other
pub child_there : (wave : Wave) (children : Children) (state : State) (v : TreeNode) → IsKnown wave
    → AreChildren wave.tree children → IsBalancedBut wave state (Some v) → ((w : ℕ) → v ≢ Worker w)
    → ((k : ℕ) → k < length (hanging children v) → state.flow (get_or (hanging children v) k (Worker 0)) ≡ 0) → ⊥
child_there wave children state v known all b inner none =
    let found = hole_goes_on wave state v known b inner in
    let each = b.each found.0 in
    let some = found.2 in
    let zero = at_each (hanging children v) (Worker 0) (λ x. state.flow x ≡ 0) none found.0
    ((all.each v found.0).1 (record {
      known = room_known wave known found.0 (slots_of wave) (omega arith);
      below = λ e. (let top = b.top in let same = ap state.flow e in omega arith);
      above = found.1;
    })) in
    omega arith
