use Rattle.std.proofs.Common.{◌∙◌, ap, false}
use Rattle.wave_problem.specs.Wave.{Wave}
use Rattle.tree_planner.specs.Events.{with_pending}
use Rattle.tree_planner.proofs.Pending.{unpended}
use Rattle.tree_planner.proofs.events.pending_ends.Goals as goal

pub returns-in-Err-clause-err : goal.returns-in-Err-clause-err
returns-in-Err-clause-err c =
    let s = c.args.split in
    c.set_pending-in-Err.ensures ∙ ap (λ (w : Wave). with_pending w s false) c.set_pending.ensures
    ∙ unpended c.args.problem.now s c.requires.split c.requires.idle
