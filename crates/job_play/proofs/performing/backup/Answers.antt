use Rattle.std.proofs.lemmas.Result.{on_ok_weaker}
use Rattle.job_play.proofs.Writing.{backup_accepted, backup_ignored}
use Rattle.job_play.proofs.performing.backup.Goals as goal

pub returns-in_ok-add_accepted-in-Accepted : goal.returns-in_ok-add_accepted-in-Accepted
returns-in_ok-add_accepted-in-Accepted c = λ target. on_ok_weaker _
    (λ next. backup_accepted _ target _ _ _ _ _ _ _ _ _ c.in-Accepted.ensures.answer
    c.in-Accepted.ensures.attempt
    c.in_ok-add_accepted-in-Accepted.ensures next)
    c.add_backup.ensures

pub returns-in-Ignored : goal.returns-in-Ignored
returns-in-Ignored c = λ target. on_ok_weaker _
    (λ next. backup_ignored _ target _ _ _ _ _ _ _ c.in-Ignored.ensures.answer next)
    c.add_ignored.ensures
