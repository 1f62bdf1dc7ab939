use Rattle.std.proofs.Common.{◌≡◌, ◌+◌, length}
use Rattle.std.specs.List.{All}
use Rattle.thread_tests.proofs.boards.seats_of.Given as goal

abbrev pub invariant-loop : goal.invariant-loop
invariant-loop g l =
    (l.maker ≡ record l.fn.maker { seats = l.fn.maker.seats + l.counter })
    × All (λ s. (s.board ≡ l.board.board) × (s.worker ≡ l.worker) × (s.beats ≡ 0)) l.seats.items
    × (length l.seats.items ≡ l.counter)
