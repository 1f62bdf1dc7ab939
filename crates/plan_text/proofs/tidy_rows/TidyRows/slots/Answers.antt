use Rattle.std.proofs.Common.{arith}
use Rattle.plan_text.proofs.Words.{worker_at}
use Rattle.plan_text.proofs.tidy_rows.TidyRows.slots.Goals as goal

pub amount-requires-clause-amount : goal.amount-requires-clause-amount
amount-requires-clause-amount c =
    let slots = (worker_at c.args.self.now c.are_tidy.ensures c.args.worker c.requires).slots in
    record { number = slots.number; most = omega (arith, slots.most) }

pub overflow_cast-result : goal.overflow_cast-result
overflow_cast-result c =
    let slots = (worker_at c.args.self.now c.are_tidy.ensures c.args.worker c.requires).slots in
    omega (arith, c.amount.ensures, slots.most)
