use Rattle.std.proofs.Common.{inl, inr, subst}
use Rattle.hand_ledger.specs.Hands.{HandValue}
use Rattle.job_threads.specs.Telling.{Does}
use Rattle.job_threads.proofs.work.perform.Goals as goal

pub returns-in_err-make_room-clause-performs : goal.returns-in_err-make_room-clause-performs
returns-in_err-make_room-clause-performs g c = inl c.in_err-make_room.ensures.same

pub returns-clause-performs : goal.returns-clause-performs
returns-clause-performs g c =
    inr (subst (λ (hand : HandValue). Does g.L.OfJob.setup c.args.order.now hand c.do_order.new.hand)
    c.in_ok-make_room.ensures.ok c.do_order.ensures.does)
