use Rattle.job_threads.proofs.work.tell_reduce.Goals as goal

pub returns-in_default-clause-first : goal.returns-in_default-clause-first
returns-in_default-clause-first g c =
    rw c.in_default.is (c.part_failed.result, c.part_failed.new.hand, c.part_failed.ensures.step)
