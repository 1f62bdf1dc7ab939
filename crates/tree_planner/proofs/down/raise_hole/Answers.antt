use Rattle.std.proofs.Common.{◌≡◌, ◌∙◌, ◌+◌, ℕ, refl, sym, ap, subst, inl, inr, arith}
use Rattle.tree_flow.specs.Moves.{IsFlowSet}
use Rattle.tree_flow.specs.Nodes.{is_under, parent, IsNode}
use Rattle.tree_flow.specs.State.{IsKeptBut}
use Rattle.tree_flow.specs.declared.nodes.TreeNode.{TreeNode}
use Rattle.tree_flow.specs.Table.{at_node}
use Rattle.tree_flow.proofs.Moved.{same_or_not}
use Rattle.tree_flow.proofs.Under.{slots-most}
use Rattle.std.specs.Prelude.{Some, ◌≢◌}
use Rattle.tree_planner.specs.View.{state_of}
use Rattle.tree_planner.proofs.Below.{lower_under, not_top, raise_next, under_next}
use Rattle.tree_planner.proofs.down.raise_hole.Goals as goal

pub overflow_add-units : goal.overflow_add-units
overflow_add-units c =
    let most = slots-most c.args.problem.now c.limits.ensures.problem c.loop-node.hole in
    let each = c.loop-node.invariant.kept.balanced.each c.loop-node.hole in
    let is = c.get-units.ensures 0 in
    omega arith

pub loop-node-preserved : goal.loop-node-preserved
loop-node-preserved c =
    let wave = c.args.problem.now in
    let i = c.loop-node.invariant in
    let hole = c.loop-node.hole in
    let node = c.args.node in
    let now = state_of c.loop-node.tables in
    let new = state_of c.set_flow.new.tables in
    let other : hole ≢ node = λ e. (let t = c.is_same.ensures.1 e in let f = c.loop-node-test.true in cc) in
    let up : c.parent-hole.result ≡ parent wave.tree hole =
    c.parent-hole.ensures.node ∙ ap (λ t. parent t hole) c.tree.ensures.tree in
    let off = not_top wave now new hole node i.under other in
    let same : (u : TreeNode) → new.depth u ≡ now.depth u = λ u. ap (λ t. at_node t u) c.set_flow.ensures.depth in
    record {
      tables = c.set_flow.ensures.tables;
      kept = subst (λ v. IsKeptBut wave new (Some v)) (sym up)
          (raise_next wave now new hole node i.under other i.flat i.kept
          (subst (λ n. IsFlowSet now new hole n) (ap (λ (n : ℕ). n + 1) (c.get-units.ensures 0)) c.set_flow.ensures.set));
      known = subst (λ t. IsNode t c.parent-hole.result) c.tree.ensures.tree c.parent-hole.ensures.known;
      under = ap (λ v. is_under wave.tree v node) up ∙ under_next wave now new hole node i.under other;
      flat = λ u p q. same u
          ∙ i.flat u (lower_under wave.tree hole u off (sym (ap (λ v. is_under wave.tree v u) up) ∙ p)) q
          ∙ sym (same node);
      flows = λ v. elim (same_or_not v hole) [
        | inl e ↦
            (let here = c.set_flow.ensures.set.here in
            let is = c.get-units.ensures 0 in
            let a = ap new.flow e in
            let b = ap now.flow e in
            let most = i.flows v in
            omega arith)
        | inr n ↦ (let same = c.set_flow.ensures.set.others v n in let most = i.flows v in omega arith)
      ];
      terms = c.set_flow.ensures.terms ∙ i.terms;
      places = c.set_flow.ensures.set.places ∙ i.places;
      depth = c.set_flow.ensures.depth ∙ i.depth;
    }

pub loop-node-init : goal.loop-node-init
loop-node-init c = record {
  tables = c.requires.tables;
  kept = c.requires.hole;
  known = c.requires.known;
  under = c.requires.under;
  flat = c.requires.flat;
  flows = λ v. omega arith;
  terms = refl;
  places = refl;
  depth = refl;
}
