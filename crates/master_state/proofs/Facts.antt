-- The slots that attempts take.
use Rattle.std.proofs.Common.{◌≡◌, ℕ, ◌+◌, List, [], ◌∷◌, Bool, refl, sym, ap, ◌∙◌}
use Rattle.std.specs.Prelude.{flat_map, count_by, sum_by}
use Rattle.std.proofs.lemmas.List.Sums.{sum_by-cons, sum_by-append}
use Rattle.master_state.specs.States.{State}
use Rattle.master_state.specs.Tests.{is_on, attempts_of, part_attempts, all_running}

-- the attempts of a list that pass a test, counted one element after another
pub count_by-flat_map : {X Y : Type 0} (test : Y → Bool) (f : X → List Y) (xs : List X) →
    count_by test (flat_map f xs) ≡ sum_by (λ x. count_by test (f x)) xs
count_by-flat_map test f [] = refl
count_by-flat_map test f (x ∷ xs) =
    sum_by-append _ (f x) (flat_map f xs) ∙ ap (λ n. count_by test (f x) + n) (count_by-flat_map test f xs)
    ∙ sym (sum_by-cons _ x xs)

-- the slots that attempts take on a worker, as sums over the splits and the parts
pub count-all_running : (s : State) (w : ℕ) →
    count_by (is_on w) (all_running s)
    ≡ sum_by (λ split. count_by (is_on w) (attempts_of split)) s.splits
    + sum_by (λ part. count_by (is_on w) (part_attempts part)) s.parts
count-all_running s w =
    sum_by-append _ (flat_map attempts_of s.splits) (flat_map part_attempts s.parts)
    ∙ ap (λ n. n + count_by (is_on w) (flat_map part_attempts s.parts))
    (count_by-flat_map (is_on w) attempts_of s.splits)
    ∙ ap (λ n. sum_by (λ split. count_by (is_on w) (attempts_of split)) s.splits + n)
    (count_by-flat_map (is_on w) part_attempts s.parts)
