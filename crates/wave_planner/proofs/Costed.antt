-- What the pairs of a plan cost together.
use Rattle.std.proofs.Common.{◌≡◌, ℕ, ◌+◌, ◌<◌, ◌≤◌, List, [], ◌∷◌, ◌++◌, length, take, get_or, sym, ap, ◌∙◌, arith}
use Rattle.std.proofs.Common.{Option, None, Some}
use Rattle.std.proofs.lemmas.List.{take_more}
use Rattle.std.proofs.lemmas.List.Sums.{sum_by_push}
use Rattle.std.specs.Prelude.{unwrap_or, IfSome}
use Rattle.wave_problem.specs.Assignment.{pairs_from, pairs_of, total}
use Rattle.wave_problem.specs.Wave.{cost, Wave}

-- there are no more pairs than splits
pairs_few_from : (n : ℕ) (starts : List (Option ℕ)) → length (pairs_from n starts) ≤ length starts
pairs_few_from n [] = omega arith
pairs_few_from n (None ∷ rest) = let few = pairs_few_from (n + 1) rest in omega arith
pairs_few_from n (Some w ∷ rest) = let few = pairs_few_from (n + 1) rest in omega arith

pub pairs_few : (starts : List (Option ℕ)) → length (pairs_of starts) ≤ length starts
pairs_few starts = pairs_few_from 0 starts

-- the total of one pair more
pub total_next : (wave : Wave) (pairs : List (ℕ × ℕ)) (i : ℕ) (x : ℕ × ℕ) → i < length pairs → x ≡ get_or pairs i x
    → total wave (take (i + 1) pairs) ≡ total wave (take i pairs) + unwrap_or (cost wave x.0 x.1) 0
total_next wave pairs i x within is =
    ap (total wave) (take_more pairs i x within) ∙ ap (λ (y : ℕ × ℕ). total wave (take i pairs ++ y ∷ [])) (sym is)
    ∙ sum_by_push (λ (pair : ℕ × ℕ). unwrap_or (cost wave pair.0 pair.1) 0) (take i pairs) x

-- a bound of a number that may be there
pub unwrap_most : (o : Option ℕ) (most : ℕ) → IfSome o (λ x. x ≤ most) → unwrap_or o 0 ≤ most
unwrap_most None most is = omega arith
unwrap_most (Some x) most is = is
