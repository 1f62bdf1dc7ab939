use Rattle.std.proofs.Common.{sym}
use Rattle.std.proofs.lemmas.Result.{on_ok_weaker}
use Rattle.master_core.proofs.Found.{start_for}
use Rattle.job_play.proofs.Writing.{failed, is_told}
use Rattle.job_play.proofs.handing.fail.Goals as goal

pub returns-in-Split : goal.returns-in-Split
returns-in-Split c = λ names target.
    let start = start_for c.args.master.now.state c.args.attempt (sym c.in-Some.ensures) c.in-Split.is in
    on_ok_weaker _
    (λ next. failed names target _ _ _ _ _ _ _ start (is_told _ _ _ _ c.map_failed.ensures) next)
    c.add_answer.ensures

pub returns-in-Part : goal.returns-in-Part
returns-in-Part c = λ names target.
    let start = start_for c.args.master.now.state c.args.attempt (sym c.in-Some.ensures) c.in-Part.is in
    on_ok_weaker _
    (λ next. failed names target _ _ _ _ _ _ _ start (is_told _ _ _ _ c.part_failed.ensures) next)
    c.add_answer-in-Part.ensures
