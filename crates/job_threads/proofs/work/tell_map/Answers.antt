use Rattle.job_threads.proofs.work.tell_map.Goals as goal

pub returns-in_default-clause-first : goal.returns-in_default-clause-first
returns-in_default-clause-first g c =
    rw c.in_default.is (c.map_failed.result, c.map_failed.new.hand, c.map_failed.ensures.step)
