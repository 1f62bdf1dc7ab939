use Rattle.std.proofs.Common.{◌++◌, ◌∷◌, [], ◌∙◌, ap, length, arith, sym, subst}
use Rattle.std.proofs.lemmas.Bool.{eqb-true, false≢true}
use Rattle.tree_flow.specs.declared.nodes.TreeNode.{TreeNode}
use Rattle.tree_flow.specs.Nodes.{HasBarUnder}
use Rattle.tree_planner.proofs.Barred.{at_in_row}
use Rattle.tree_planner.proofs.Grouped.{among_same}
use Rattle.tree_planner.specs.Ends.{IsBarred, IsIn}
use Rattle.tree_planner.proofs.split_ends.add_ends.Goals as goal

pub returns : goal.returns
returns c =
    let wave = c.args.problem.now in
    let s = c.args.split in
    let groups = c.unbarred_groups.new.groups.items in
    let unbarred : (v : TreeNode) → HasBarUnder wave s v → ⊥ =
    (λ v bar.
    let there = at_in_row c.bars.result.now bar.0 (subst (λ row. IsIn row bar.0) (sym c.bars.ensures.row) bar.3) in
    let few = there.1 in
    let none = eqb-true (length c.bars.result.now) 0 (sym c.is_empty.ensures ∙ c.if-not-is_empty.false) in
    absurd (omega arith)) in
    record {
      ends = record { groups = groups; barred = [] };
      items = c.in_ok-share.ensures ∙ ap (λ xs. c.args.all.now ++ record { groups = xs; barred = [] } ∷ [])
          c.deref.ensures.value;
      same = λ e. (
        λ has. (c.in_ok-unbarred_groups.ensures e).0 (among_same wave.tree (IsBarred wave.tree []) (HasBarUnder wave s)
            (λ v known bar. absurd (unbarred v bar)) groups e has),
        λ is. among_same wave.tree (HasBarUnder wave s) (IsBarred wave.tree [])
            (λ v known out. absurd (false≢true out.3)) groups e ((c.in_ok-unbarred_groups.ensures e).1 is),
      );
    }
