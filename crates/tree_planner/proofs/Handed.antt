-- A unit goes down from a node to a worker.
use Rattle.std.proofs.Common.{◌≡◌, ℕ, zero, suc, ◌+◌, ◌-◌, ◌<◌, ◌≤◌, Bool, true, cond, None, refl, sym, ap, ◌∙◌}
use Rattle.std.proofs.Common.{subst, inl, inr, arith, length, get_or, get_or-set_same}
use Rattle.std.specs.Prelude.{◌≢◌, ◌==◌, slice_set}
use Rattle.std.proofs.lemmas.Bool.{cases_lt, eq-eqb, false≢true, ne_eqb}
use Rattle.std.proofs.lemmas.List.{length-set, set-set}
use Rattle.rack_tree.specs.Tree.{Tree}
use Rattle.wave_problem.specs.Wave.{Wave}
use Rattle.tree_flow.specs.declared.nodes.End.{End}
use Rattle.tree_flow.specs.declared.nodes.Place.TheVariants.{Stands, Unshipped, Waits}
use Rattle.tree_flow.specs.declared.nodes.TreeNode.{TreeNode}
use Rattle.tree_flow.specs.declared.nodes.TreeNode.TheVariants.{Worker, Rack, Centre, Cluster}
use Rattle.tree_flow.specs.declared.node_table.NodeTable.{NodeTable}
use Rattle.tree_planner.specs.Handing.{landed, HasUnitAt, IsUnitAt}
use Rattle.tree_flow.specs.Nodes.{parent, is_under, node_above, IsKnown}
use Rattle.tree_flow.specs.Table.{at_node}
use Rattle.tree_flow.specs.Settled.{HasComeDown}
use Rattle.tree_flow.specs.State.{State, place_of, slots_of, stands_under, IsBalancedBut}
use Rattle.tree_flow.proofs.Certified.{which_above}
use Rattle.tree_planner.specs.declared.children.Children.{Children}
use Rattle.tree_planner.specs.Hanging.{hanging, AreChildren}
use Rattle.tree_flow.proofs.Children.{unit_goes_on}
use Rattle.tree_planner.proofs.Looked.{at_each, room_known}
use Rattle.tree_flow.proofs.Ends.{above_above, under_under}
use Rattle.tree_flow.proofs.Given.{under_parent}
use Rattle.tree_flow.proofs.Moved.{counts, one, parent_not_under, parent_under, same_or_not, sum_less, under_own}

-- a split goes on to a node that hangs from where it stands, with one of the units that come there
module _ (wave : Wave) (now : State) (s : ℕ) (e : End) (c : TreeNode) (flow : TreeNode → ℕ)
    (known : s < length now.places) (b : IsBalancedBut wave now None) (stands : place_of now s ≡ Stands e)
    (above : parent wave.tree c ≡ e.node) (hangs : c ≢ Cluster) (here : flow c + 1 ≡ now.flow c)
    (others : (v : TreeNode) → v ≢ c → flow v ≡ now.flow v) where
  abbrev below : End
  below = record { node = c; level = e.level }

  abbrev gone_on : State
  gone_on = record now { places = slice_set now.places s (Stands below); flow = flow }

  pub goes_on_balanced : IsBalancedBut wave gone_on None
  goes_on_balanced = record {
    size = length-set now.places s (Stands below) ∙ b.size;
    top = others Cluster (λ same. hangs (sym same)) ∙ b.top;
    each = λ v.
        (let each = b.each v in
        let count = counts wave now (record now { places = slice_set now.places s (Stands below) }) s (Stands below)
        (record { known = known; terms = refl; places = refl; flow = refl; depth = refl; free = refl }) v in
        let was = ap (λ p. one (stands_under wave.tree v p)) stands in
        let from = ap (λ u. one (is_under wave.tree u v)) above in
        elim (same_or_not v c) [
          | inl is ↦
              (let now_under = ap one (ap (λ v. is_under wave.tree c v) is ∙ under_own wave.tree c) in
              let not_under = ap one (ap (λ v. is_under wave.tree (parent wave.tree c) v) is
              ∙ parent_not_under wave.tree c hangs) in
              let a = ap flow is in
              let d = ap now.flow is in
              omega arith)
          | inr n ↦
              (let same = ap one (parent_under wave.tree c v n) in
              let flows = others v n in
              omega arith)
        ]);
  }

-- at a worker it is taken off, and leaves a free slot
module _ (wave : Wave) (now : State) (s w : ℕ) (e : End) (free : ℕ → ℕ)
    (known : s < length now.places) (b : IsBalancedBut wave now None) (stands : place_of now s ≡ Stands e)
    (at : e.node ≡ Worker w) (worker : w < length wave.workers) (here : now.free w + 1 ≡ free w)
    (others : (x : ℕ) → x ≢ w → now.free x ≡ free x) where
  pub lands_balanced : IsBalancedBut wave (record now { places = slice_set now.places s Unshipped; free = free }) None
  lands_balanced = record {
    size = length-set now.places s Unshipped ∙ b.size;
    top = b.top;
    each = λ v.
        (let each = b.each v in
        let count = counts wave now (record now { places = slice_set now.places s Unshipped }) s Unshipped
        (record { known = known; terms = refl; places = refl; flow = refl; depth = refl; free = refl }) v in
        let was = ap (λ p. one (stands_under wave.tree v p)) stands in
        let from = ap (λ u. one (is_under wave.tree u v)) at in
        let more = sum_less (length wave.workers) w (λ x. is_under wave.tree (Worker x) v) free now.free worker here
        others in
        omega arith);
  }

-- what stands above the worker and under a node, and is not the node, is under the child on the way
between : (tree : Tree) (w i j : ℕ) → i < 4 → j < 4
    → is_under tree (node_above tree i w) (parent tree (node_above tree j w)) ≡ true
    → node_above tree i w ≢ parent tree (node_above tree j w)
    → is_under tree (node_above tree i w) (node_above tree j w) ≡ true
between tree w i j l m under other = elim (cases_lt j i) [
  | inr few ↦ above_above tree w i j few m
  | inl past ↦ absurd (off i j l m past under other)
]
  where
    off : (i j : ℕ) → i < 4 → j < 4 → j < i
        → is_under tree (node_above tree i w) (parent tree (node_above tree j w)) ≡ true
        → node_above tree i w ≢ parent tree (node_above tree j w) → ⊥
    off zero j l m past under other = absurd (omega arith)
    off (suc zero) zero l m past under other = other refl
    off (suc zero) (suc j) l m past under other = absurd (omega arith)
    off (suc (suc zero)) zero l m past under other = false≢true under
    off (suc (suc zero)) (suc zero) l m past under other = other refl
    off (suc (suc zero)) (suc (suc j)) l m past under other = absurd (omega arith)
    off (suc (suc (suc zero))) zero l m past under other = false≢true under
    off (suc (suc (suc zero))) (suc zero) l m past under other = false≢true under
    off (suc (suc (suc zero))) (suc (suc zero)) l m past under other = other refl
    off (suc (suc (suc zero))) (suc (suc (suc j))) l m past under other = absurd (omega arith)
    off (suc (suc (suc (suc i)))) j l m past under other = absurd (omega arith)

-- a unit that comes to a child, and from there down to a worker, comes down from the parent
pub come_on : (tree : Tree) (state : State) (c : TreeNode) (w : ℕ) → HasComeDown tree state c w → 0 < state.flow c
    → HasComeDown tree state (parent tree c) w
come_on tree state c w h some = record {
  under = under_under tree w c (parent tree c) h.under (under_parent tree c c (under_own tree c));
  flows = λ u under_worker under other. elim (same_or_not u c) [
    | inl same ↦ subst (λ v. 0 < state.flow v) (sym same) some
    | inr n ↦
        (let one = which_above tree w u under_worker in
        let two = which_above tree w c h.under in
        let way = between tree w one.0 two.0 one.1 two.1
        (subst (λ v. is_under tree v (parent tree (node_above tree two.0 w)) ≡ true) one.2
        (subst (λ v. is_under tree u (parent tree v) ≡ true) two.2 under))
        (λ e. other (one.2 ∙ e ∙ ap (λ v. parent tree v) (sym two.2))) in
        h.flows u under_worker (subst (λ v. is_under tree v c ≡ true) (sym one.2)
        (subst (λ v. is_under tree (node_above tree one.0 w) v ≡ true) (sym two.2) way)) n)
  ];
}

-- a state with the same units is balanced
same_flow : (wave : Wave) (a : State) (flow : TreeNode → ℕ) → ((v : TreeNode) → flow v ≡ a.flow v)
    → IsBalancedBut wave a None → IsBalancedBut wave (record a { flow = flow }) None
same_flow wave a flow same b = record {
  size = b.size;
  top = same Cluster ∙ b.top;
  each = λ v. (let each = b.each v in let is = same v in omega arith);
}

-- a unit at a worker leaves its slot free
pub land : (wave : Wave) (left : NodeTable ℕ) (w s : ℕ) (now : State) (e : End)
    → IsUnitAt wave left (Worker w) now s e → w < length wave.workers → IsBalancedBut wave (landed now s w left) None
land wave left w s now e u worker =
    let free : ℕ → ℕ = λ x. now.free x + cond (w == x) 1 0 in
    let here : now.free w + 1 ≡ free w = ap (λ (b : Bool). now.free w + cond b 1 0) (sym (eq-eqb w w refl)) in
    let b = lands_balanced wave now s w e free u.known u.balanced u.stands u.at worker here
    (λ x n. (let off = ap (λ (b : Bool). cond {A = ℕ} b 1 0) (ne_eqb w x (λ e. n (sym e))) in omega arith)) in
    same_flow wave (record now { places = slice_set now.places s Unshipped; free = free }) (λ v. at_node left v)
    (λ v. sym (u.flow v)) b

-- one at another node goes on to a node that hangs from it
module _ (wave : Wave) (left mid : NodeTable ℕ) (v c : TreeNode) (s : ℕ) (now : State) (e : End)
    (u : IsUnitAt wave left v now s e) (above : parent wave.tree c ≡ v) (hangs : c ≢ Cluster)
    (some : 0 < at_node left c) (here : at_node mid c ≡ at_node left c - 1)
    (others : (x : TreeNode) → x ≢ c → at_node mid x ≡ at_node left x) where
  abbrev pub lower : End
  lower = record { node = c; level = e.level }

  abbrev pub next : State
  next = record now { places = slice_set now.places s (Stands lower); flow = λ x. at_node mid x }

  pub go_on : IsUnitAt wave mid c next s lower
  go_on = record {
    flow = λ x. refl;
    balanced = goes_on_balanced wave now s e c (λ x. at_node mid x) u.known u.balanced u.stands (above ∙ sym u.at)
        hangs (let flow = u.flow c in omega arith) (λ x n. others x n ∙ sym (u.flow x));
    known = (let size = length-set now.places s (Stands lower) in let known = u.known in omega arith);
    stands = get_or-set_same now.places s (Stands lower) Waits u.known;
    at = refl;
  }

  -- where it lands from there, it lands from here
  pub land_on : (w : ℕ) (new : NodeTable ℕ) → IsBalancedBut wave (landed next s w new) None
      → IsBalancedBut wave (landed now s w new) None
  land_on w new b = subst (λ places. IsBalancedBut wave (record now {
    places = places;
    flow = λ x. at_node new x;
    free = λ x. now.free x + cond (w == x) 1 0;
  }) None) (set-set now.places s (Stands lower) Unshipped) b

-- the height of a node falls on the way down
abbrev pub height : TreeNode → ℕ
height (Worker w) = 0
height (Rack r) = 1
height (Centre c) = 2
height Cluster = 3

pub height_less : (tree : Tree) (c : TreeNode) → c ≢ Cluster → height c < height (parent tree c)
height_less tree (Worker w) off = omega arith
height_less tree (Rack r) off = omega arith
height_less tree (Centre c) off = omega arith
height_less tree Cluster off = absurd (off refl)

-- where a unit is, some unit goes to one of the nodes that hang from it
pub unit_there : (wave : Wave) (children : Children) (left : NodeTable ℕ) (v : TreeNode) → IsKnown wave
    → AreChildren wave.tree children → ((w : ℕ) → v ≢ Worker w) → HasUnitAt wave left v
    → ((k : ℕ) → k < length (hanging children v) → at_node left (get_or (hanging children v) k (Worker 0)) ≡ 0) → ⊥
unit_there wave children left v known all inner unit none =
    let u = unit.3 in
    let found = unit_goes_on wave unit.0 v known u.balanced inner (inr (unit.1, unit.2, u.stands, u.at)) in
    let each = u.balanced.each found.0 in
    let some = found.2 in
    let flow = u.flow found.0 in
    let is = room_known wave known found.0 (slots_of wave) (omega arith) in
    let zero = at_each (hanging children v) (Worker 0) (λ x. at_node left x ≡ 0) none found.0 ((all.each v found.0).1 (record {
      known = is;
      below = λ e. (let top = u.balanced.top in let same = ap unit.0.flow e in omega arith);
      above = found.1;
    })) in
    omega arith

-- no number rises where one falls
pub set_falls : (old new : NodeTable ℕ) (c : TreeNode) → at_node new c ≡ at_node old c - 1
    → ((v : TreeNode) → v ≢ c → at_node new v ≡ at_node old v) → (v : TreeNode) → at_node new v ≤ at_node old v
set_falls old new c here others v = elim (same_or_not v c) [
  | inl e ↦ (let a = ap (λ v. at_node new v) e in let b = ap (λ v. at_node old v) e in omega arith)
  | inr n ↦ (let same = others v n in omega arith)
]
