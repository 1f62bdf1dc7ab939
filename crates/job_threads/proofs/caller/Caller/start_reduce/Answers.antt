use Rattle.std.proofs.Common.{refl}
use Rattle.std.proofs.lemmas.Result.{IfOk-weaker}
use Rattle.master_state.specs.declared.answers.Answer.TheVariants.{Accepted, Ignored}
use Rattle.job_threads.proofs.caller.Caller.start_reduce.Goals as goal

pub returns-in-Accepted-clause-starts : goal.returns-in-Accepted-clause-starts
returns-in-Accepted-clause-starts g c =
    IfOk-weaker c.send.result _ _
    (λ started sends. record {
      answer = Accepted c.in-Accepted.field-0 c.in-Accepted.reply;
      answered = c.reduce_start.new.hand;
      kept = c.in-Accepted.ensures.kept;
      replies = c.in-Accepted.ensures.reply;
      sends = sends;
    })
    c.send.ensures.order

pub returns-in_ok-judge_why-in-Ignored-clause-starts : goal.returns-in_ok-judge_why-in-Ignored-clause-starts
returns-in_ok-judge_why-in-Ignored-clause-starts g c = record {
  answer = Ignored c.in-Ignored.why tt;
  answered = c.reduce_start.new.hand;
  kept = c.in-Ignored.ensures.kept;
  replies = tt;
  sends = (refl, refl);
}
