-- The numbers that pass a test, one after another.
use Rattle.std.proofs.Common.{◌≡◌, ℕ, ◌+◌, ◌-◌, ◌<◌, List, [], ◌∷◌, ◌++◌}
use Rattle.std.proofs.Common.{Bool, cond, sym, ap, ◌∙◌}
use Rattle.std.proofs.Common.{arith}
use Rattle.std.specs.Prelude.{filter}
use Rattle.std.specs.List.{range_with_len}
use Rattle.std.proofs.lemmas.List.{map-id}
use Rattle.std.proofs.lemmas.List.FromFn.{filter_of_map_range_with_len_more}

-- the numbers from i on that are below n: i, and those after it
pub range_front : (i n : ℕ) → i < n → range_with_len i (n - i) ≡ i ∷ range_with_len (i + 1) (n - (i + 1))
range_front i n below = grind arith

-- the step of a loop over the numbers that pass a test
pub filter_range_more : (test : ℕ → Bool) (n : ℕ) →
    filter test (range_with_len 0 (n + 1)) ≡ filter test (range_with_len 0 n) ++ cond (test n) (n ∷ []) []
filter_range_more test n =
    let same : 0 + n ≡ n = omega arith in
    ap (filter test) (sym (map-id (range_with_len 0 (n + 1))))
    ∙ filter_of_map_range_with_len_more test (λ (k : ℕ). k) 0 n n same
    ∙ ap (λ (ks : List ℕ). filter test ks ++ cond (test n) (n ∷ []) []) (map-id (range_with_len 0 n))
