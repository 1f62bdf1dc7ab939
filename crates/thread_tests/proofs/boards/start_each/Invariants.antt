use Rattle.std.specs.Prelude.{◌≡◌, ◌+◌, length}
use Rattle.std.specs.List.{All}
use Rattle.thread_tests.proofs.boards.start_each.Given as goal

abbrev pub invariant-loop-seat : goal.invariant-loop-seat
invariant-loop-seat g l =
    All (λ s. (s.board ≡ l.board.board) × (s.worker ≡ l.worker) × (s.beats ≡ 0)) l.seat-iterator.rest.items
    × All (λ t. (t.promise.board.now.board ≡ l.board.board) × (t.promise.worker ≡ l.worker)
    × (t.promise.beats ≡ l.times)) l.threads.items
    × (length l.threads.items + length l.seat-iterator.rest.items
    ≡ length l.initial.seat-iterator.rest.items)
