-- When every part is done.
use Rattle.std.proofs.Common.{◌≡◌, ℕ, ◌+◌, ◌≤◌, ◌==◌, Bool, true, false, cond, List, [], ◌∷◌, not}
use Rattle.std.proofs.Common.{ap, arith, refl, sym}
use Rattle.std.specs.Prelude.{count_by}
use Rattle.std.specs.List.{list_all}
use Rattle.std.proofs.lemmas.Bool.{ne_eqb}
use Rattle.std.proofs.lemmas.List.Sums.{sum_by-cons}
use Rattle.shuffle_reduce.specs.Merged.{PartView}
use Rattle.shuffle_reduce.specs.Indexed.{HasDouble, count_of}
use Rattle.master_state.specs.declared.states.PartState.{PartState}
use Rattle.master_state.specs.declared.states.PartState.TheVariants as part
use Rattle.master_state.specs.States.{Setup, State}
use Rattle.master_state.specs.Tests.{part_at, part_is_done}
use Rattle.master_state.specs.Jobs.{AreResults}

abbrev is_open : PartState → Bool
is_open state = not (part_is_done state)

one_open : (state : PartState) (parts : List PartState) → is_open state ≡ true →
    (count_by is_open (state ∷ parts) == 0) ≡ false
one_open state parts here =
    let all : count_by is_open (state ∷ parts) ≡ cond {A = ℕ} (is_open state) 1 0 + count_by is_open parts =
    sum_by-cons (λ (x : PartState). cond {A = ℕ} (is_open x) 1 0) state parts in
    let one : cond {A = ℕ} (is_open state) 1 0 ≡ 1 = ap (λ (b : Bool). cond {A = ℕ} b 1 0) here in
    ne_eqb (count_by is_open (state ∷ parts)) 0 (λ none. omega (arith, all, one, none))

-- none is open exactly where all are done
pub none_open : (parts : List PartState) →
    (count_by (λ (state : PartState). not (part_is_done state)) parts == 0) ≡ list_all part_is_done parts
none_open [] = refl
none_open (part.Pending ∷ parts) = one_open part.Pending parts refl
none_open (part.Running attempt ∷ parts) = one_open (part.Running attempt) parts refl
none_open (part.Done ∷ parts) = none_open parts

-- ---- results

one_or_none : (done : Bool) (n : ℕ) → n ≡ cond {A = ℕ} done 1 0 → 2 ≤ n → ⊥
one_or_none true n is two = omega (arith, is, two)
one_or_none false n is two = omega (arith, is, two)

-- no part has two results
pub no_double : (setup : Setup) (s : State) (results : List PartView) → AreResults setup s results →
    HasDouble results → ⊥
no_double setup s results are twice =
    one_or_none (part_is_done (part_at s twice.0)) (count_of results twice.0) (are.one_each twice.0) twice.1

-- what is not so is not
pub not_false : (b : Bool) → not b ≡ false → b ≡ true
not_false true here = refl
not_false false here = sym here
