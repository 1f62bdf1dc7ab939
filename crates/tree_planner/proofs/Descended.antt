-- The ends under a node that has bars are those under the nodes that hang from it.
use Rattle.std.proofs.Common.{◌≡◌, ℕ, ◌<◌, ◌↔◌, ◌⊎◌, true, List, length, get_or, Contains}
use Rattle.std.proofs.Common.{sym, ap, ◌∙◌, subst, inl, inr, arith}
use Rattle.std.specs.Prelude.{◌≢◌}
use Rattle.std.proofs.lemmas.List.{get_or_default}
use Rattle.std.proofs.lemmas.List.Elements.{Contains-get_or}
use Rattle.rack_tree.specs.Tree.{Tree}
use Rattle.wave_problem.specs.Wave.{Wave}
use Rattle.tree_flow.specs.declared.nodes.End.{End}
use Rattle.tree_flow.specs.declared.nodes.TreeNode.{TreeNode}
use Rattle.tree_flow.specs.declared.nodes.TreeNode.TheVariants.{Worker, Rack, Centre, Cluster}
use Rattle.tree_flow.specs.Nodes.{is_under, parent, HasBarUnder, IsKnown, IsNode}
use Rattle.tree_flow.proofs.Given.{under_parent}
use Rattle.tree_flow.proofs.Moved.{same_or_not, under_own, parent_under}
use Rattle.tree_planner.specs.Bars.{IsTopEnd}
use Rattle.tree_planner.specs.Hanging.{HangsFrom}
use Rattle.tree_planner.proofs.Below.{lower_under, only_top}
use Rattle.tree_planner.proofs.Handed.{height}

-- the node that hangs from top, on the way up from v
abbrev pub IsBetween : Tree → TreeNode → TreeNode → Type 0
IsBetween tree v top = (c : TreeNode) × HangsFrom tree top c × (is_under tree v c ≡ true)

module _ (tree : Tree) (top : TreeNode) where
  next_under : (v : TreeNode) → is_under tree v top ≡ true → v ≢ top → is_under tree (parent tree v) top ≡ true
  next_under v under n = sym (parent_under tree v top (λ e. n (sym e))) ∙ under

  between : (v : TreeNode) → IsNode tree v → v ≢ Cluster → is_under tree v top ≡ true → v ≢ top
      → (is_under tree (parent tree v) top ≡ true → parent tree v ≢ top → IsBetween tree (parent tree v) top)
      → IsBetween tree v top
  between v known off under n up = elim (same_or_not (parent tree v) top) [
    | inl e ↦ (v, record { known = known; below = off; above = e }, under_own tree v)
    | inr m ↦ (let b = up (next_under v under n) m in (b.0, b.1, lower_under tree v b.0 off b.2))
  ]

  from_cluster : is_under tree Cluster top ≡ true → Cluster ≢ top → IsBetween tree Cluster top
  from_cluster under n = absurd (n (sym (only_top tree top under)))

  from_centre : (c : ℕ) → c < tree.centres → is_under tree (Centre c) top ≡ true → Centre c ≢ top
      → IsBetween tree (Centre c) top
  from_centre c known under n = between (Centre c) known (λ e. (let h = ap height e in omega arith)) under n from_cluster

module _ (wave : Wave) (known : IsKnown wave) (top : TreeNode) where
  from_rack : (r : ℕ) → r < length wave.tree.centre_of → is_under wave.tree (Rack r) top ≡ true → Rack r ≢ top
      → IsBetween wave.tree (Rack r) top
  from_rack r is under n = between wave.tree top (Rack r) is (λ e. (let h = ap height e in omega arith)) under n
      (from_centre wave.tree top _ (known.centres r is))

  from_worker : (w : ℕ) → w < length wave.tree.rack_of → is_under wave.tree (Worker w) top ≡ true → Worker w ≢ top
      → IsBetween wave.tree (Worker w) top
  from_worker w is under n = between wave.tree top (Worker w) is (λ e. (let h = ap height e in omega arith)) under n
      (from_rack _ (known.racks w (let lines = known.lines in omega arith)))

  pub from_any : (v : TreeNode) → IsNode wave.tree v → is_under wave.tree v top ≡ true → v ≢ top
      → IsBetween wave.tree v top
  from_any (Worker w) is = from_worker w is
  from_any (Rack r) is = from_rack r is
  from_any (Centre c) is = from_centre wave.tree top c is
  from_any Cluster is = from_cluster wave.tree top

-- an end at one of the nodes that hang from another's
abbrev pub end_below : End → List TreeNode → ℕ → End
end_below top below k = record { node = get_or below k (Worker 0); level = top.level }

-- the end is at or under one of these nodes, which has bars
abbrev pub IsPart : Wave → ℕ → End → List TreeNode → End → ℕ → Type 0
IsPart wave s top below e k = HasBarUnder wave s (get_or below k (Worker 0)) × IsTopEnd wave s (end_below top below k) e

-- a node's ends are added if it has bars, else nothing
pub part_more : {N O B T : Type 0} → B → (N ↔ (O ⊎ T)) → N ↔ (O ⊎ (B × T))
part_more b both = (
  λ n. elim (both.0 n) [
    | inl o ↦ inl o
    | inr t ↦ inr (b, t)
  ],
  λ h. elim h [
    | inl o ↦ both.1 (inl o)
    | inr p ↦ both.1 (inr p.1)
  ],
)

pub part_none : {O B T : Type 0} → (B → ⊥) → O ↔ (O ⊎ (B × T))
part_none free = (
  λ o. inl o,
  λ h. elim h [
    | inl o ↦ o
    | inr p ↦ absurd (free p.0)
  ],
)

-- of a node with bars, with the list of the nodes that hang from it
module _ (wave : Wave) (s : ℕ) (top : End) (below : List TreeNode)
    (each : (c : TreeNode) → Contains below c ↔ HangsFrom wave.tree top.node c) where
  pub rises : HasBarUnder wave s top.node → (k : ℕ) → k < length below → (e : End)
      → IsTopEnd wave s (end_below top below k) e → IsTopEnd wave s top e
  rises barred k l e t =
      let c = get_or below k (Worker 0) in
      let hangs = (each c).0 (Contains-get_or below k (Worker 0) l) in
      record {
        known = t.known;
        level = t.level;
        near = subst (λ v. is_under wave.tree e.node v ≡ true) hangs.above (under_parent wave.tree e.node c t.near);
        no_bar = t.no_bar;
        largest = inr (elim t.largest [
          | inl same ↦ subst (λ v. HasBarUnder wave s v) (sym (ap (parent wave.tree) same ∙ hangs.above)) barred
          | inr bar ↦ bar
        ]);
      }

  pub sinks : IsKnown wave → HasBarUnder wave s top.node → (e : End) → IsTopEnd wave s top e
      → (k : ℕ) × (k < length below) × IsTopEnd wave s (end_below top below k) e
  sinks known barred e t =
      let off : e.node ≢ top.node = (λ same. t.no_bar (subst (λ v. HasBarUnder wave s v) (sym same) barred)) in
      let b = from_any wave known top.node e.node t.known t.near off in
      let at = (each b.0).1 b.1 in
      let is : b.0 ≡ get_or below at.0 (Worker 0) = sym (get_or_default below at.0 (Worker 0) b.0 at.1 ∙ at.2) in (
        at.0,
        at.1,
        record {
          known = t.known;
          level = t.level;
          near = subst (λ v. is_under wave.tree e.node v ≡ true) is b.2;
          no_bar = t.no_bar;
          largest = elim t.largest [
            | inl same ↦ absurd (off same)
            | inr bar ↦ inr bar
          ];
        },
      )
