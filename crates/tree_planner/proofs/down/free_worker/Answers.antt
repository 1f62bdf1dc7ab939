use Rattle.std.proofs.Common.{◌∙◌, ◌<◌, sym, ap, subst, arith}
use Rattle.tree_flow.specs.Nodes.{is_under, IsNode}
use Rattle.tree_flow.specs.Table.{at_node}
use Rattle.tree_flow.proofs.Moved.{under_own}
use Rattle.tree_planner.proofs.down.free_worker.Goals as goal

pub loop-at-init : goal.loop-at-init
loop-at-init c = record {
  known = c.requires.known;
  some = c.requires.some;
  under = under_own c.args.problem.now.tree c.args.node;
}

pub returns-in-Worker-clause-known : goal.returns-in-Worker-clause-known
returns-in-Worker-clause-known c =
    let known = subst (λ v. IsNode c.args.problem.now.tree v) c.in-Worker.is c.loop-at.invariant.known in
    let lines = c.requires.wave.lines in
    omega arith

pub returns-in-Worker-clause-free : goal.returns-in-Worker-clause-free
returns-in-Worker-clause-free c =
    subst (λ v. 0 < at_node c.args.below.now v) c.in-Worker.is c.loop-at.invariant.some

pub returns-in-Worker-clause-under : goal.returns-in-Worker-clause-under
returns-in-Worker-clause-under c =
    ap (λ v. is_under c.args.problem.now.tree v c.args.node) (sym c.in-Worker.is) ∙ c.loop-at.invariant.under
