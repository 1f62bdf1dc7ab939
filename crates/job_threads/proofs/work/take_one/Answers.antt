use Rattle.std.proofs.Common.{inl, refl}
use Rattle.job_threads.proofs.Working.{has_worked_more}
use Rattle.job_threads.proofs.work.take_one.Goals as goal
use Rattle.job_threads.proofs.work.take_one.Goals.{then-not-is_lost+in_ok-perform, else-not-is_lost}

pub returns-in_err-perform-clause-worked : goal.returns-in_err-perform-clause-worked
returns-in_err-perform-clause-worked g c =
    has_worked_more _ _ _ _ _ _ c.in-Some.ensures.taken c.perform.ensures.performs

pub returns-clause-worked : goal.returns-clause-worked
returns-clause-worked g c = elim c.if-not-is_lost.branch [
  | then-not-is_lost+in_ok-perform w ↦ rw w.hand-is
      (has_worked_more _ _ _ _ _ _ c.in-Some.ensures.taken w.perform.ensures.performs)
  | else-not-is_lost w ↦ rw w.hand-is
      (has_worked_more _ _ _ c.in-Some.order _ _ c.in-Some.ensures.taken (inl refl))
]
