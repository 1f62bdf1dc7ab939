use Rattle.std.proofs.Common.{arith, ◌≡◌, ap, length, length-append, [], ◌∷◌, ◌++◌}
use Rattle.std.proofs.lemmas.List.Elements.{All-push, All-rest}
use Rattle.std.specs.declared.thread.PromisedHandle.{PromisedHandle}
use Rattle.beat_board.specs.Values.{SeatValue}
use Rattle.thread_tests.specs.declared.boards.SeatOf.{SeatOf}
use Rattle.thread_tests.proofs.boards.start_each.Goals as goal

-- the next thread makes the promise
pub loop-seat-preserved : goal.loop-seat-preserved
loop-seat-preserved g c =
    let was = c.loop-seat.invariant in
    let of = c.args in
    let step : c.loop-seat.seat-iterator.rest.items ≡ c.in-Some.seat ∷ c.next.new.self.rest.items =
    c.in-Some.ensures.steps.0 in
    let items : c.push.new.self.items ≡ c.loop-seat.threads.items ++ c.start-thread.result ∷ [] =
    rw c.expect.ensures at c.push.ensures.items in (
      All-rest (λ (s : SeatValue). (s.board ≡ of.board.now.board) × (s.worker ≡ of.worker)
          × (s.beats ≡ 0)) _ _ _ step was.0,
      rw items
          (All-push (λ (t : PromisedHandle SeatValue SeatOf). (t.promise.board.now.board ≡ of.board.now.board)
          × (t.promise.worker ≡ of.worker) × (t.promise.beats ≡ of.times)) _ _ was.1 c.start-thread.ensures),
      omega (
        arith,
        was.2,
        ap length items,
        ap length step,
        length-append c.loop-seat.threads.items (c.start-thread.result ∷ []),
      ),
    )
