-- The total of seats that made as many beats each.
use Rattle.std.proofs.Common.{◌≡◌, ℕ, ◌*◌, ◌==◌, cond, List, [], ◌∷◌, length, arith}
use Rattle.std.proofs.lemmas.Bool.Decides.{nat_tests}
use Rattle.std.proofs.lemmas.List.Elements.{All-head, All-tail}
use Rattle.std.proofs.lemmas.List.Sums.{sum_by-cons}
use Rattle.std.specs.List.{All}
use Rattle.beat_board.specs.Values.{SeatValue, beats_by}

counts : (v w m n : ℕ) → v ≡ w → m ≡ n → cond (v == w) m 0 ≡ n
counts v w m n e f = grind (arith, nat_tests)

pub total_of : (w n : ℕ) (xs : List SeatValue)
    → All (λ s. (s.worker ≡ w) × (s.beats ≡ n)) xs → beats_by w xs ≡ length xs * n
total_of w n [] h = omega arith
total_of w n (x ∷ xs) h =
    let here = All-head (λ (s : SeatValue). (s.worker ≡ w) × (s.beats ≡ n)) x xs h in
    let rest = total_of w n xs
    (All-tail (λ (s : SeatValue). (s.worker ≡ w) × (s.beats ≡ n)) x xs h) in
    let one = counts x.worker w x.beats n here.0 here.1 in
    let sums = sum_by-cons (λ (s : SeatValue). cond (s.worker == w) s.beats 0) x xs in
    rw sums (omega (arith, one, rest))
