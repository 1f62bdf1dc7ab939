use Rattle.std.proofs.lemmas.Result.{on_ok_weaker}
use Rattle.job_play.proofs.Writing.{is_told}
use Rattle.job_play.proofs.performing.tell.Goals as goal

pub returns-in-Withdraw : goal.returns-in-Withdraw
returns-in-Withdraw c = rw c.in-Withdraw.is (on_ok_weaker c.add_answer.result
    (λ written. record { out = _; performs = is_told _ _ _ _ c.withdraw.ensures; written = written })
    c.add_answer.ensures)

pub returns-in-Die : goal.returns-in-Die
returns-in-Die c = rw c.in-Die.is (on_ok_weaker c.add_answer-in-Die.result
    (λ written. record { out = _; performs = is_told _ _ _ _ c.die.ensures; written = written })
    c.add_answer-in-Die.ensures)

pub returns-in-Add : goal.returns-in-Add
returns-in-Add c = rw c.in-Add.is (on_ok_weaker c.add_answer-in-Add.result
    (λ written. record { out = _; performs = is_told _ _ _ _ c.add.ensures; written = written })
    c.add_answer-in-Add.ensures)

pub returns-in-Lose : goal.returns-in-Lose
returns-in-Lose c = rw c.in-Lose.is (on_ok_weaker c.add_answer-in-Lose.result
    (λ written. record { out = _; performs = is_told _ _ _ _ c.lose.ensures; written = written })
    c.add_answer-in-Lose.ensures)
