use Rattle.std.proofs.Common.{◌≡◌, ◌+◌}
use Rattle.thread_tests.proofs.boards.beat_often.Given as goal

abbrev pub invariant-loop : goal.invariant-loop
invariant-loop l =
    (l.seat.board ≡ l.fn.seat.board) × (l.seat.worker ≡ l.fn.seat.worker)
    × (l.seat.beats ≡ l.fn.seat.beats + l.counter)
