-- A table of the loads of all workers, split after split.
use Rattle.std.proofs.Common.{◌≡◌, ℕ, ◌+◌, ◌<◌, ◌≤◌, true, false, List, length, take, get_or, set, cond, Bool, Option}
use Rattle.std.proofs.Common.{Some, arith, get_or-set_same, get_or-set_other}
use Rattle.std.specs.Prelude.{◌==◌}
use Rattle.std.proofs.lemmas.Bool.{cases_eq, eq-eqb, ne_eqb}
use Rattle.wave_problem.specs.Assignment.{load, pairs_of, start_of}
use Rattle.wave_problem.proofs.Pairs.{load_at}

-- one more at a place
one_more : (loads : List ℕ) (v w : ℕ) → v < length loads →
    get_or (set loads v (get_or loads v 0 + 1)) w 0 ≡ get_or loads w 0 + cond (v == w) 1 0
one_more loads v w inside = grind (arith, cases_eq, eq-eqb, get_or-set_same, ne_eqb, get_or-set_other)

count-le : (b : Bool) → cond b 1 0 ≤ 1
count-le true = omega arith
count-le false = omega arith

pub one_more-le : (loads : List ℕ) (v w : ℕ) → v < length loads →
    get_or (set loads v (get_or loads v 0 + 1)) w 0 ≤ get_or loads w 0 + 1
one_more-le loads v w inside = omega (arith, one_more loads v w inside, count-le (v == w))

-- the table after a split that starts on the worker at a place
pub loads_more : (starts : List (Option ℕ)) (loads : List ℕ) (i v place w : ℕ) (o : Option ℕ) →
    i < length starts → o ≡ start_of starts i → o ≡ Some v →
    place ≡ v → place < length loads → get_or loads w 0 ≡ load (pairs_of (take i starts)) w →
    get_or (set loads place (get_or loads place 0 + 1)) w 0 ≡ load (pairs_of (take (i + 1) starts)) w
loads_more starts loads i v place w o within here started same inside counted =
    grind (arith, load_at, one_more)
