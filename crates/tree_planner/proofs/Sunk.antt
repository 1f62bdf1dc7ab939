-- A node that is deepened, and a hole that sinks to it.
use Rattle.std.proofs.Common.{◌≡◌, ℕ, ◌-◌, ◌<◌, ◌≤◌, Option, Some, sym, ap, ◌∙◌, subst, inl, inr, arith}
use Rattle.std.specs.Prelude.{◌≢◌}
use Rattle.std.proofs.lemmas.Bool.{false≢true}
use Rattle.rack_tree.specs.Tree.{Tree}
use Rattle.wave_problem.specs.Wave.{Wave}
use Rattle.tree_flow.specs.declared.nodes.TreeNode.{TreeNode}
use Rattle.tree_flow.specs.declared.nodes.TreeNode.TheVariants.{Cluster}
use Rattle.tree_flow.specs.Moves.{IsFlowSet}
use Rattle.tree_flow.specs.Nodes.{is_under, parent}
use Rattle.tree_flow.specs.State.{slots_of, sum_under, IsKeptBut}
use Rattle.tree_flow.specs.Table.{at_node}
use Rattle.tree_flow.proofs.Given.{deepens}
use Rattle.tree_flow.proofs.Moved.{parent_not_under, pushes_up, same_or_not, under_own}
use Rattle.tree_planner.specs.declared.tables.Tables.{Tables}
use Rattle.tree_planner.specs.Engine.{IsStandingBut}
use Rattle.tree_planner.proofs.Standing.{stands_as_deep, stands_so}
use Rattle.tree_planner.specs.View.{state_of, AreTables}
use Rattle.tree_planner.specs.WayBack.{IsDepthSet}

-- a node does not hang from itself
pub parent_other : (tree : Tree) (c : TreeNode) → c ≢ Cluster → parent tree c ≢ c
parent_other tree c hangs e =
    false≢true (sym (parent_not_under tree c hangs) ∙ ap (λ v. is_under tree v c) e ∙ under_own tree c)

pub deepened_standing : (wave : Wave) (old new : Tables) (node : TreeNode) (hole : Option TreeNode)
    → IsStandingBut wave old hole → AreTables wave new
    → at_node old.flow node ≡ sum_under wave node (slots_of wave)
    → at_node old.depth node ≤ at_node old.depth (parent wave.tree node)
    → IsDepthSet (state_of old) (state_of new) node (at_node old.depth (parent wave.tree node))
    → IsStandingBut wave new hole
deepened_standing wave old new node hole s tables full less set = stands_so wave old new hole hole s set.terms tables
    (λ v. elim (same_or_not v node) [
      | inl e ↦
          (let now = set.here in
          let same = ap (λ v. at_node new.depth v) e in
          let low = s.low (parent wave.tree node) in
          omega arith)
      | inr n ↦ (let same = set.others v n in let low = s.low v in omega arith)
    ])
    (deepens wave (state_of old) (state_of new) node hole s.kept (record {
      full = full;
      terms = set.terms;
      places = set.places;
      flow = set.flow;
      free = set.free;
      here = (let now = set.here in omega arith);
      others = set.others;
    }))

pub sunk_standing : (wave : Wave) (mid new : Tables) (node below : TreeNode)
    → IsStandingBut wave mid (Some node) → AreTables wave new → parent wave.tree below ≡ node
    → below ≢ Cluster
    → 0 < at_node mid.flow below → at_node mid.depth (parent wave.tree below) ≤ at_node mid.depth below
    → IsFlowSet (state_of mid) (state_of new) below (at_node mid.flow below - 1)
    → IsStandingBut wave new (Some below)
sunk_standing wave mid new node below s tables above hangs some level set =
    stands_as_deep wave mid new (Some node) (Some below) s set.terms set.depth tables
    (pushes_up wave (state_of mid) (state_of new) below
    (subst (λ v. IsKeptBut wave (state_of mid) (Some v)) (sym above) s.kept) hangs
    (let up = s.kept.level.up below some in omega arith) some set)

pub sunk_depth : (wave : Wave) (mid new : Tables) (node below : TreeNode) (units : ℕ)
    → IsStandingBut wave mid (Some node) → parent wave.tree below ≡ node → 0 < at_node mid.flow below
    → at_node mid.depth (parent wave.tree below) ≤ at_node mid.depth below
    → IsFlowSet (state_of mid) (state_of new) below units → at_node new.depth below ≡ at_node mid.depth node
sunk_depth wave mid new node below units s above some level set =
    (let up = s.kept.level.up below some in
    let same = ap (λ v. at_node mid.depth v) above in
    let now = ap (λ d. d below) set.depth in
    omega arith)
