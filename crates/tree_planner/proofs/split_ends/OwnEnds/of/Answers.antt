use Rattle.std.proofs.Common.{sym, subst, ◌∙◌, arith}
use Rattle.tree_flow.specs.Nodes.{HasBarUnder}
use Rattle.tree_planner.specs.Ends.{IsBarred, IsIn}
use Rattle.tree_planner.proofs.Grouped.{among_same}
use Rattle.tree_planner.proofs.Known.{is_known}
use Rattle.tree_planner.proofs.split_ends.OwnEnds.of.Goals as goal

pub returns : goal.returns
returns c = λ e.
    (let wave = c.args.problem.now in
    let s = c.args.split in
    let groups = c.in_ok-groups.groups.items in
    let row = c.in_ok-barred.barred.items in
    let lines = (is_known wave c.limits.ensures.problem c.limits.ensures.tree).lines in
    let same = c.in_ok-barred.ensures ∙ c.bars.ensures.row in
    let ends = c.in_ok-groups.ensures e in (
      λ has. ends.0 (among_same wave.tree (IsBarred wave.tree row) (HasBarUnder wave s) (λ v known bar.
          (bar.0, (let few = bar.1 in omega arith), bar.2, subst (λ row. IsIn row bar.0) (sym same) bar.3))
          groups e has),
      λ is. among_same wave.tree (HasBarUnder wave s) (IsBarred wave.tree row) (λ v known out.
          (out.0, (let few = out.1 in omega arith), out.2, subst (λ row. IsIn row out.0) same out.3))
          groups e (ends.1 is),
    ))
