use Rattle.std.proofs.Common.{◌≡◌, List, All, Bool, true, false, if◌then◌else◌, sym, subst}
use Rattle.std.proofs.lemmas.List.Elements.{All-push}
use Rattle.beat_board.specs.Values.{SeatValue}
use Rattle.job_threads.proofs.threads.Came.take.Goals as goal

either : {X : Type 0} (P : X → Type 0) (is : Bool) (xs ys : List X) → All P xs → All P ys →
    All P (if is then xs else ys)
either P true xs ys all others = all
either P false xs ys all others = others

pub invariant_of-self-in-Some-clause-seats_of : goal.invariant_of-self-in-Some-clause-seats_of
invariant_of-self-in-Some-clause-seats_of g c =
    let IsOfBoard : SeatValue → Type 0 = λ seat. seat.board ≡ g.L.Aim.board.board in
    let came = c.args.self.now in
    subst (All IsOfBoard) (sym c.push-in-Some.ensures.items)
    (either IsOfBoard _ _ came.seats.items
    (All-push IsOfBoard came.seats.items c.in-Some.seat came.seats_of (c.args.back.board c.in-Some.seat c.in-Some.is))
    came.seats_of)
