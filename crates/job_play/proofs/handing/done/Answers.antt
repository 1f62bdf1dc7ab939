use Rattle.std.proofs.Common.{sym}
use Rattle.std.proofs.lemmas.Result.{on_ok_weaker}
use Rattle.master_core.proofs.Found.{start_for}
use Rattle.job_play.proofs.Writing.{done_split, done_part}
use Rattle.job_play.proofs.handing.done.Goals as goal

pub returns-in_ok-answer-in-Split : goal.returns-in_ok-answer-in-Split
returns-in_ok-answer-in-Split c = λ names target.
    let start = start_for c.args.master.now.state c.args.attempt (sym c.in-Some.ensures) c.in-Split.is in
    on_ok_weaker _
    (λ next. done_split names target _ _ _ _ _ _ _ _ start c.in_ok-answer-in-Split.ensures next)
    c.add_answer.ensures

pub returns-in_ok-answer-in-Part : goal.returns-in_ok-answer-in-Part
returns-in_ok-answer-in-Part c = λ names target.
    let start = start_for c.args.master.now.state c.args.attempt (sym c.in-Some.ensures) c.in-Part.is in
    on_ok_weaker _
    (λ next. done_part names target _ _ _ _ _ _ _ _ start c.in_ok-answer-in-Part.ensures next)
    c.add_answer-in-Part.ensures
