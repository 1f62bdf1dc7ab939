use Rattle.std.proofs.Common.{ap, arith, ◌∙◌}
use Rattle.std.proofs.lemmas.Grind.{common_steps}
use Rattle.lane_queue.specs.Orders.{attempt_of}
use Rattle.job_threads.proofs.caller.Caller.send.Goals as goal

pub returns-clause-order : goal.returns-clause-order
returns-clause-order g c =
    let attempt = c.attempt-attempt.ensures ∙ ap attempt_of c.in-Err.ensures.given_back in
    (grind (arith, common_steps), (c.withdraw-answer.result, rw attempt at c.withdraw-answer.ensures.kept))
