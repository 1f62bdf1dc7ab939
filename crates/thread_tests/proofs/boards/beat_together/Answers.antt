use Rattle.std.proofs.Common.{rules, ◌≡◌, ◌*◌, ap, subst, ◌∙◌, length}
use Rattle.std.specs.List.{All}
use Rattle.beat_board.specs.Values.{SeatValue}
use Rattle.thread_tests.proofs.Totals.{total_of}
use Rattle.thread_tests.proofs.boards.beat_together.Goals as goal

pub returns : goal.returns
returns g c =
    let beaten = c.each_beats-seats in
    let seats = beaten.result.items in
    let times = c.args.times in
    let first : c.new.result ≡ 0 = search rules in
    let each = subst (λ w. All (λ (s : SeatValue). (s.worker ≡ w) × (s.beats ≡ times)) seats) first
    beaten.ensures.beats in
    let n : length seats ≡ c.args.threads = beaten.ensures.count ∙ c.board_with-board.ensures.count in
    c.close_with_all.ensures ∙ total_of 0 times seats each ∙ ap (λ k. k * times) n
