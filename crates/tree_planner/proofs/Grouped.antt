-- Ends in groups.
use Rattle.std.proofs.Common.{◌≡◌, ℕ, ◌<◌, ◌↔◌, ◌⊎◌, ◌++◌, ◌∷◌, [], List, length, get_or, slice_index, true, Contains}
use Rattle.std.proofs.Common.{sym, ap, ◌∙◌, subst, inl, inr, arith}
use Rattle.std.proofs.lemmas.Bool.{eqb-true, false≢true}
use Rattle.std.proofs.lemmas.List.{get_or_default}
use Rattle.std.proofs.lemmas.List.Elements.{Contains-append_left, Contains-push, Contains-push_cases}
use Rattle.rack_tree.specs.Tree.{Tree}
use Rattle.wave_problem.specs.Wave.{Wave}
use Rattle.tree_flow.specs.declared.nodes.End.{End}
use Rattle.tree_flow.specs.declared.nodes.TreeNode.{TreeNode}
use Rattle.tree_flow.specs.declared.nodes.TreeNode.TheVariants.{Worker, Rack, Centre, Cluster}
use Rattle.tree_flow.specs.Nodes.{is_under, HasBarUnder, IsNode}
use Rattle.tree_flow.proofs.Given.{under_parent}
use Rattle.tree_flow.proofs.Moved.{under_own}
use Rattle.tree_planner.specs.Bars.{IsTopEnd}
use Rattle.tree_planner.specs.declared.split_ends.Group.{Group}
use Rattle.tree_planner.specs.declared.split_ends.Group.TheVariants.{Single, Below}
use Rattle.tree_planner.specs.Ends.{IsAmong, IsLeft, IsOf}
use Rattle.tree_planner.specs.Hanging.{HangsFrom}
use Rattle.tree_planner.proofs.Looked.{at_each}

-- what stands for a group past the end of a list
abbrev pub first : Group
first = Single (record { node = Worker 0; level = 0 })

module _ (tree : Tree) (Out : TreeNode → Type 0) where
  pub push_group : (groups : List Group) (group : Group) (e : End)
      → IsAmong tree Out (groups ++ group ∷ []) e ↔ (IsAmong tree Out groups e ⊎ IsOf tree Out group e)
  push_group groups group e = (
    λ i. elim (Contains-push_cases groups group i.group i.here) [
      | inl before ↦ inl (record { group = i.group; here = before; is_of = i.is_of })
      | inr is ↦ inr (subst (λ g. IsOf tree Out g e) (sym is) i.is_of)
    ],
    λ o. elim o [
      | inl i ↦ record {
        group = i.group;
        here = Contains-append_left groups (group ∷ []) i.group i.here;
        is_of = i.is_of;
      }
      | inr of ↦ record { group = group; here = Contains-push groups group; is_of = of }
    ],
  )

  -- what holds of the ends of each group holds of all ends
  pub all_among : (groups : List Group) (d : Group) (P : End → Type 0)
      → ((k : ℕ) → k < length groups → (x : End) → IsOf tree Out (get_or groups k d) x → P x)
      → (x : End) → IsAmong tree Out groups x → P x
  all_among groups d P h x i = h i.here.0 i.here.1 x (subst (λ g. IsOf tree Out g x)
      (sym (get_or_default groups i.here.0 d i.group i.here.1 ∙ i.here.2)) i.is_of)

  pub none_among : (e : End) → IsAmong tree Out [] e → ⊥
  none_among e i = (let none = i.here.1 in absurd (omega arith))

-- the ends are the same where the same nodes are left out
module _ (tree : Tree) (Out Else : TreeNode → Type 0) (same : (v : TreeNode) → IsNode tree v → Else v → Out v) where
  of_same : (group : Group) (e : End) → IsOf tree Out group e → IsOf tree Else group e
  of_same (Single x) e o = o
  of_same (Below u level) e o = ((o.0.0, λ out. o.0.1 (same e.node o.0.0.known out)), o.1)

  pub among_same : (groups : List Group) (e : End) → IsAmong tree Out groups e → IsAmong tree Else groups e
  among_same groups e i = record { group = i.group; here = i.here; is_of = of_same i.group e i.is_of }

-- under a node with bars the nodes below it without are ends
pub below_rises : (wave : Wave) (s : ℕ) (top : End) → HasBarUnder wave s top.node → (e : End)
    → IsOf wave.tree (HasBarUnder wave s) (Below top.node top.level) e → IsTopEnd wave s top e
below_rises wave s top bar e o = record {
  known = o.0.0.known;
  level = o.1;
  near = subst (λ v. is_under wave.tree e.node v ≡ true) o.0.0.above
      (under_parent wave.tree e.node e.node (under_own wave.tree e.node));
  no_bar = o.0.1;
  largest = inr (subst (λ v. HasBarUnder wave s v) (sym o.0.0.above) bar);
}

-- under a rack with bars there are no other ends than these
module _ (wave : Wave) (s r level : ℕ) (bar : HasBarUnder wave s (Rack r)) where
  abbrev top : End
  top = record { node = Rack r; level = level }

  rack_sinks : (v : TreeNode) (l : ℕ) → IsTopEnd wave s top (record { node = v; level = l })
      → IsLeft wave.tree (HasBarUnder wave s) (Rack r) v
  rack_sinks (Worker w) l t = (
    record {
      known = t.known;
      below = λ e. cc;
      above = ap Rack (sym (eqb-true r (slice_index wave.tree.rack_of w) t.near));
    },
    t.no_bar,
  )
  rack_sinks (Rack q) l t =
      absurd (t.no_bar (subst (λ (x : ℕ). HasBarUnder wave s (Rack x)) (eqb-true r q t.near) bar))
  rack_sinks (Centre c) l t = absurd (false≢true t.near)
  rack_sinks Cluster l t = absurd (false≢true t.near)

  pub rack_ends : (e : End) → IsOf wave.tree (HasBarUnder wave s) (Below (Rack r) level) e ↔ IsTopEnd wave s top e
  rack_ends e = (λ o. below_rises wave s top bar e o, λ t. (rack_sinks e.node e.level t, t.level))

pub all_left : (tree : Tree) (Out : TreeNode → Type 0) (u : TreeNode) (nodes : List TreeNode)
    → ((v : TreeNode) → HangsFrom tree u v → Contains nodes v) → (P : TreeNode → Type 0)
    → ((k : ℕ) → k < length nodes → IsLeft tree Out u (get_or nodes k (Worker 0)) → P (get_or nodes k (Worker 0)))
    → (v : TreeNode) → IsLeft tree Out u v → P v
all_left tree Out u nodes all P each v left = at_each nodes (Worker 0) (λ v. IsLeft tree Out u v → P v) each v
    (all v left.0) left

-- and what holds of these as ends holds of the ends of the group
pub of_below : (tree : Tree) (Out : TreeNode → Type 0) (u : TreeNode) (level : ℕ) (P : End → Type 0)
    → ((v : TreeNode) → IsLeft tree Out u v → P (record { node = v; level = level })) → (x : End)
    → IsOf tree Out (Below u level) x → P x
of_below tree Out u level P each x o = subst (λ (l : ℕ). P (record { node = x.node; level = l })) (sym o.1)
    (each x.node o.0)
