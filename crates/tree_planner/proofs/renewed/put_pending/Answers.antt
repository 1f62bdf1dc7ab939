use Rattle.std.proofs.Common.{◌∙◌, false, get_or, refl, ap, arith}
use Rattle.tree_planner.specs.Events.{with_pending}
use Rattle.tree_planner.proofs.Flagged.{all_put, none_put, one_put, splits_put}
use Rattle.tree_planner.proofs.renewed.put_pending.Goals as goal

pub loop-s-init : goal.loop-s-init
loop-s-init c = none_put c.args.problem.now c.args.pending.now

pub loop-s-preserved : goal.loop-s-preserved
loop-s-preserved c =
    (let flag = get_or c.args.pending.now c.loop-s.s false in
    let size = splits_put c.args.problem.now c.loop-s.problem c.loop-s.s c.args.pending.now c.loop-s.invariant in
    one_put c.args.problem.now c.loop-s.problem c.set_pending.new.self c.loop-s.s c.args.pending.now
    flag c.loop-s.invariant (omega arith)
    (c.set_pending.ensures ∙ ap (λ n. with_pending c.loop-s.problem n flag) c.new.ensures) refl)

pub returns : goal.returns
returns c =
    all_put c.args.problem.now c.loop-s.problem c.loop-s.s c.args.pending.now c.loop-s.invariant (omega arith)
    (omega arith)
