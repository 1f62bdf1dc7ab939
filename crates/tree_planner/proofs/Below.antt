-- Free slots under a node, and the way up from one.
use Rattle.std.proofs.Common.{◌≡◌, ℕ, zero, suc, ◌+◌, ◌<◌, ◌≤◌, true, length, sym, ap, ◌∙◌, subst, refl}
use Rattle.std.proofs.Common.{inl, inr, arith}
use Rattle.std.specs.Prelude.{◌≢◌, Some}
use Rattle.std.proofs.lemmas.Bool.{false≢true}
use Rattle.rack_tree.specs.Tree.{Tree}
use Rattle.wave_problem.specs.Wave.{Wave}
use Rattle.tree_flow.specs.declared.nodes.TreeNode.{TreeNode}
use Rattle.tree_flow.specs.declared.nodes.TreeNode.TheVariants.{Worker, Rack, Centre, Cluster}
use Rattle.tree_flow.specs.Nodes.{is_under, node_above, parent, IsKnown}
use Rattle.tree_flow.specs.State.{State, sum_under, slots_of, taken, IsKept, IsKeptBut}
use Rattle.tree_flow.specs.Moves.{IsFlowSet}
use Rattle.tree_flow.proofs.Given.{under_parent}
use Rattle.tree_flow.proofs.Moved.{parent_under, pushes_down, same_or_not, under_own}
use Rattle.tree_flow.proofs.Certified.{which_above}
use Rattle.tree_flow.proofs.Children.{some_of_sum}
use Rattle.tree_flow.proofs.Ends.{node_known, own_above}
use Rattle.tree_flow.proofs.Under.{under-le, under_worker}
use Rattle.tree_flow.specs.Table.{at_node}
use Rattle.tree_planner.specs.declared.tables.Tables.{Tables}
use Rattle.tree_planner.specs.Hanging.{HangsFrom}
use Rattle.tree_planner.specs.View.{state_of, AreTables}

-- the node one level lower on the way to a worker hangs from the one above
hangs_next : (wave : Wave) (w j : ℕ) → IsKnown wave → w < length wave.workers → j < 3
    → HangsFrom wave.tree (node_above wave.tree (suc j) w) (node_above wave.tree j w)
hangs_next wave w zero known l m = record { known = node_known wave w 0 known l; below = λ e. cc; above = refl }
hangs_next wave w (suc zero) known l m = record { known = node_known wave w 1 known l; below = λ e. cc; above = refl }
hangs_next wave w (suc (suc zero)) known l m =
    record { known = node_known wave w 2 known l; below = λ e. cc; above = refl }
hangs_next wave w (suc (suc (suc j))) known l m = absurd (omega arith)

-- under a node above the workers, where something is, something is under a node that hangs from it
pub some_below : (wave : Wave) → IsKnown wave → (v : TreeNode) → ((w : ℕ) → v ≢ Worker w) → (f : ℕ → ℕ)
    → 0 < sum_under wave v f → (c : TreeNode) × HangsFrom wave.tree v c × (0 < sum_under wave c f)
some_below wave known v inner f some =
    let found = some_of_sum (length wave.workers) (λ w. is_under wave.tree (Worker w) v) f some in
    let w = found.0 in
    let at = which_above wave.tree w v found.2 in
    next w found.1 found.3 at.0 at.1 at.2
  where
    next : (w : ℕ) → w < length wave.workers → 0 < f w → (j : ℕ) → j < 4 → v ≡ node_above wave.tree j w
        → (c : TreeNode) × HangsFrom wave.tree v c × (0 < sum_under wave c f)
    next w l more zero m is = absurd (inner w is)
    next w l more (suc j) m is = (
      node_above wave.tree j w,
      subst (λ u. HangsFrom wave.tree u (node_above wave.tree j w)) (sym is) (hangs_next wave w j known l (omega arith)),
      (let least = under-le wave (node_above wave.tree j w) f w l (own_above wave.tree j w) in omega arith),
    )

-- a worker under which a slot is counted has it free
pub free_there : (wave : Wave) (t : Tables) → AreTables wave t → (w : ℕ) → w < length wave.workers
    → 0 < at_node t.below (Worker w) → 0 < (state_of t).free w
free_there wave t tables w known some =
    let sums = tables.sums (Worker w) in
    let own = under_worker wave (state_of t).free w known in
    omega arith

-- what is under the parent's node is under the node too
pub lower_under : (tree : Tree) (c v : TreeNode) → c ≢ Cluster → is_under tree (parent tree c) v ≡ true
    → is_under tree c v ≡ true
lower_under tree c v off under = elim (same_or_not v c) [
  | inl e ↦ subst (λ v. is_under tree c v ≡ true) (sym e) (under_own tree c)
  | inr n ↦ parent_under tree c v n ∙ under
]

pub only_top : (tree : Tree) (v : TreeNode) → is_under tree Cluster v ≡ true → v ≡ Cluster
only_top tree (Worker w) u = absurd (false≢true u)
only_top tree (Rack r) u = absurd (false≢true u)
only_top tree (Centre c) u = absurd (false≢true u)
only_top tree Cluster u = refl

-- above a free slot no node lies deeper than one under it
module _ (wave : Wave) (state : State) (kept : IsKept wave state) (w : ℕ) (l : w < length wave.workers)
    (some : 0 < state.free w) where
  room_above : (u : TreeNode) → is_under wave.tree (Worker w) u ≡ true → state.flow u < sum_under wave u (slots_of wave)
  room_above u under =
      let each = kept.balanced.each u in
      let least = under-le wave u state.free w l under in
      omega arith

  deep_next : (c v : TreeNode) → is_under wave.tree (Worker w) c ≡ true
      → (is_under wave.tree (parent wave.tree c) v ≡ true → state.depth v ≤ state.depth (parent wave.tree c))
      → is_under wave.tree c v ≡ true → state.depth v ≤ state.depth c
  deep_next c v own above under = elim (same_or_not v c) [
    | inl e ↦ (let same = ap state.depth e in omega arith)
    | inr n ↦
        (let down = kept.level.down c (room_above c own) in
        let more = above (sym (parent_under wave.tree c v n) ∙ under) in
        omega arith)
  ]

  deep_top : (v : TreeNode) → is_under wave.tree Cluster v ≡ true → state.depth v ≤ state.depth Cluster
  deep_top v under = (let same = ap state.depth (only_top wave.tree v under) in omega arith)

  deep_two : (v : TreeNode) → is_under wave.tree (node_above wave.tree 2 w) v ≡ true
      → state.depth v ≤ state.depth (node_above wave.tree 2 w)
  deep_two v = deep_next (node_above wave.tree 2 w) v (own_above wave.tree 2 w) (deep_top v)

  deep_one : (v : TreeNode) → is_under wave.tree (node_above wave.tree 1 w) v ≡ true
      → state.depth v ≤ state.depth (node_above wave.tree 1 w)
  deep_one v = deep_next (node_above wave.tree 1 w) v (own_above wave.tree 1 w) (deep_two v)

  deep_own : (v : TreeNode) → is_under wave.tree (Worker w) v ≡ true → state.depth v ≤ state.depth (Worker w)
  deep_own v = deep_next (Worker w) v (own_above wave.tree 0 w) (deep_one v)

  deep_at : (j : ℕ) (v : TreeNode) → is_under wave.tree (node_above wave.tree j w) v ≡ true
      → state.depth v ≤ state.depth (node_above wave.tree j w)
  deep_at zero v = deep_own v
  deep_at (suc zero) v = deep_one v
  deep_at (suc (suc zero)) v = deep_two v
  deep_at (suc (suc (suc j))) v = deep_top v

  module _ (v : TreeNode) (above : is_under wave.tree (Worker w) v ≡ true)
      (cheap : state.terms.price w (taken wave state w) ≤ state.depth v) where
    -- the worker lies as deep as its next place costs, where a node above it does
    pub deep_enough : state.terms.price w (taken wave state w) ≤ state.depth (Worker w)
    deep_enough = (let deep = deep_own v above in omega arith)

    -- and so do the nodes between
    pub flat_between : (u : TreeNode) → is_under wave.tree (Worker w) u ≡ true → is_under wave.tree u v ≡ true
        → state.depth u ≡ state.depth v
    flat_between u over under =
        let at = which_above wave.tree w u over in
        let deep = deep_own u over in
        let low = deep_at at.0 v (ap (λ u. is_under wave.tree u v) (sym at.2) ∙ under) in
        let same = ap state.depth at.2 in
        let bottom = kept.level.bottom w l some in
        omega arith

-- a hole goes up one step, where all nodes up to the last lie as deep as that
module _ (wave : Wave) (old new : State) (c v : TreeNode) (under : is_under wave.tree c v ≡ true) (n : c ≢ v) where
  pub not_top : c ≢ Cluster
  not_top e = n (e ∙ sym (only_top wave.tree v (subst (λ c. is_under wave.tree c v ≡ true) e under)))

  pub under_next : is_under wave.tree (parent wave.tree c) v ≡ true
  under_next = sym (parent_under wave.tree c v (λ e. n (sym e))) ∙ under

  pub raise_next : ((u : TreeNode) → is_under wave.tree c u ≡ true → is_under wave.tree u v ≡ true
      → old.depth u ≡ old.depth v) → IsKeptBut wave old (Some c)
      → IsFlowSet old new c (old.flow c + 1) → IsKeptBut wave new (Some (parent wave.tree c))
  raise_next flat kept set =
      let here = flat c (under_own wave.tree c) under in
      let above = flat (parent wave.tree c) (under_parent wave.tree c c (under_own wave.tree c)) under_next in
      pushes_down wave old new c kept not_top (above ∙ sym here) set
