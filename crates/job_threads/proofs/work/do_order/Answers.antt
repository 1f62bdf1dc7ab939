use Rattle.std.proofs.Common.{inr}
use Rattle.job_threads.proofs.work.do_order.Goals as goal

pub returns-in_err-judge-in-Map-clause-does : goal.returns-in_err-judge-in-Map-clause-does
returns-in_err-judge-in-Map-clause-does g c =
    rw c.in-Map.is
    (inr (
      c.mapped-made.result,
      c.mapped-made.ensures.text,
      c.mapped-made.ensures.parts,
      c.tell_map-answer.ensures.first,
      (c.tell_map-answer.result, c.tell_map-answer.ensures.tells),
    ))

pub returns-in_ok-judge-in-Map-clause-does : goal.returns-in_ok-judge-in-Map-clause-does
returns-in_ok-judge-in-Map-clause-does g c =
    rw c.in-Map.is
    (inr (
      c.mapped-made.result,
      c.mapped-made.ensures.text,
      c.mapped-made.ensures.parts,
      c.tell_map-answer.ensures.first,
      (c.tell_map-answer.result, c.tell_map-answer.ensures.tells),
    ))

pub returns-in-Some-beat-clause-does : goal.returns-in-Some-beat-clause-does
returns-in-Some-beat-clause-does g c =
    let texts = rw c.deref.ensures.value at c.reduced-made.ensures.texts in
    rw c.in-Reduce.is
    (inr (
      c.reduced-made.result,
      c.reduced-made.ensures.part,
      c.reduced-made.ensures.parts,
      texts,
      c.tell_reduce-answer.ensures.first,
      (c.tell_reduce-answer.result, c.tell_reduce-answer.ensures.tells),
    ))
