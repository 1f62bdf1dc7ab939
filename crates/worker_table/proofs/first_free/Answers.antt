use Rattle.std.proofs.Common.{sym, ◌∙◌, arith, length, ◌≤◌}
use Rattle.std.proofs.lemmas.List.Sums.{position_or_len_is}
use Rattle.std.proofs.lemmas.List.Folds.{list_any_none}
use Rattle.worker_table.specs.Workers.{has_free_slot}
use Rattle.worker_table.proofs.first_free.Goals as goal

pub returns-then-has_free_slot-clause-lowest : goal.returns-then-has_free_slot-clause-lowest
returns-then-has_free_slot-clause-lowest c =
    let inside : c.loop-i.i ≤ length c.args.workers.now = omega arith in
    c.new.ensures
    ∙ sym (position_or_len_is has_free_slot c.args.workers.now c.loop-i.i _ inside
    (λ k below. c.loop-i.invariant k _ below) (λ _. sym c.has_free_slot.ensures ∙ c.if-has_free_slot.true))

pub returns-clause-found : goal.returns-clause-found
returns-clause-found c =
    sym (list_any_none has_free_slot c.args.workers.now
    (λ k d below. c.loop-i.invariant k d (omega (arith, c.loop-i-test.false))))
