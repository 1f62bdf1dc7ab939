-- The results of the parts that are done are fewer than the parts, where one is not done.
use Rattle.std.proofs.Common.{◌≡◌, ℕ, zero, suc, ◌+◌, ◌<◌, ◌≤◌, ◌==◌, List, [], ◌∷◌, length, cond}
use Rattle.std.proofs.Common.{if◌then◌else◌, ltb, Bool, true, false, refl, sym, ap, ◌∙◌, arith, inl, inr, All}
use Rattle.std.specs.Prelude.{count_by, slice_index_or, vec_capacity, vec_len}
use Rattle.std.proofs.lemmas.Bool.{false≢true, cases_eq, cases_lt, eq-eqb, lt-ltb}
use Rattle.std.proofs.lemmas.List.{get_or_past}
use Rattle.std.proofs.lemmas.List.Sums.{sum_by-cons, get_or-le-sum_by}
use Rattle.shuffle_reduce.specs.Merged.{PartView}
use Rattle.shuffle_reduce.specs.Indexed.{count_of}
use Rattle.master_state.specs.declared.states.PartState.{PartState}
use Rattle.master_state.specs.declared.states.PartState.TheVariants as part
use Rattle.master_state.specs.States.{Setup, State}
use Rattle.master_state.specs.Tests.{part_at, part_is_done, part_runs}
use Rattle.master_state.specs.Jobs.{AreResults}
use Rattle.master_state.proofs.Places.{part_inside}
use Rattle.master_core.specs.declared.master.Master.TheInside.{Inside}
use Rattle.master_core.specs.Inside.{setup_of, state_of, IsMaster}
use Rattle.master_tables.specs.Places.{RunsPart}

abbrev one_if : Bool → ℕ
one_if b = cond b 1 0

-- how many results are of a part below n
abbrev count_below : ℕ → List PartView → ℕ
count_below n results = count_by (λ result. ltb result.part n) results

one_more_below : (r n : ℕ) → one_if (ltb r (suc n)) ≡ one_if (ltb r n) + one_if (r == n)
one_more_below r n = grind arith

count_more : (n : ℕ) (results : List PartView) →
    count_below (suc n) results ≡ count_below n results + count_of results n
count_more n [] = refl
count_more n (result ∷ results) = search (arith, count_more n results, sum_by-cons, one_more_below)

count_none : (results : List PartView) → count_below 0 results ≡ 0
count_none [] = refl
count_none (result ∷ results) = grind (arith, count_none results)

-- one of each at most are no more than there are parts, and fewer where one has none
at_most : (results : List PartView) → ((r : ℕ) → count_of results r ≤ 1) → (n : ℕ) →
    count_below n results ≤ n
at_most results each zero = omega (arith, count_none results)
at_most results each (suc n) = omega (arith, count_more n results, each n, at_most results each n)

fewer : (results : List PartView) → ((r : ℕ) → count_of results r ≤ 1) → (r n : ℕ) → r < n →
    count_of results r ≡ 0 → count_below n results < n
fewer results each r zero inside none = absurd (omega (arith, inside))
fewer results each r (suc n) inside none = elim (cases_eq r n) [
  | inl same ↦
      let here : count_of results n ≡ 0 = ap (count_of results) (sym same) ∙ none in
      omega (arith, count_more n results, here, at_most results each n)
  | inr other ↦ omega (
    arith,
    count_more n results,
    each n,
    fewer results each r n (omega (arith, inside, other)) none,
  )
]

all_below : (n : ℕ) (results : List PartView) → All (λ result. result.part < n) results →
    count_below n results ≡ length results
all_below n [] all = refl
all_below n (result ∷ results) all =
    omega (
      arith,
      sum_by-cons (λ (x : PartView). one_if (ltb x.part n)) result results,
      ap one_if (lt-ltb result.part n (all 0 result (omega arith))),
      all_below n results (λ k d l. all (suc k) d (omega (arith, l))),
    )

few_of : (b : Bool) (n : ℕ) → n ≡ (if b then 1 else 0) → n ≤ 1
few_of true n e = omega (arith, e)
few_of false n e = omega (arith, e)

-- a result is of a part that is done, and so of one of the parts
done_where : (b : Bool) (n : ℕ) → n ≡ (if b then 1 else 0) → 1 ≤ n → b ≡ true
done_where true n e some = refl
done_where false n e some = absurd (omega (arith, e, some))

in_parts : (setup : Setup) (s : State) (results : List PartView) → AreResults setup s results →
    All (λ result. result.part < length s.parts) results
in_parts setup s results are k d l =
    let r = (slice_index_or results k d).part in
    let count : PartView → ℕ = λ x. one_if (x.part == r) in
    let one : count (slice_index_or results k d) ≡ 1 = ap one_if (eq-eqb r r refl) in
    let some : 1 ≤ count_of results r = omega (arith, get_or-le-sum_by count results k d l, one) in
    let done = done_where (part_is_done (part_at s r)) (count_of results r) (are.one_each r) some in
    elim (cases_lt r (length s.parts)) [
      | inl inside ↦ inside
      | inr past ↦ grind (arith, get_or_past, false≢true)
    ]

pub few_results : (setup : Setup) (s : State) (results : List PartView) (r : ℕ) → AreResults setup s results →
    r < length s.parts → part_is_done (part_at s r) ≡ false → length results < length s.parts
few_results setup s results r are inside unfinished =
    let none : count_of results r ≡ 0 = are.one_each r ∙ rw unfinished refl in
    omega (
      arith,
      all_below (length s.parts) results (in_parts setup s results are),
      fewer results (λ k. few_of (part_is_done (part_at s k)) (count_of results k) (are.one_each k)) r
          (length s.parts) inside none,
    )

not_done : (a : ℕ) (state : PartState) → part_runs a state ≡ true → part_is_done state ≡ false
not_done a part.Pending run = refl
not_done a (part.Running attempt) run = refl
not_done a part.Done run = absurd (false≢true run)

-- so there is room for the result of a part that runs
pub result_room : {m : Inside} {a r w : ℕ} → IsMaster m → RunsPart (state_of m) a r w →
    vec_len m.results < vec_capacity m.results
result_room {m = m} {a = a} {r = r} was run =
    omega (
      arith,
      few_results (setup_of m) (state_of m) m.results.items r was.kept.results
          (part_inside (state_of m) a r run.runs)
          (not_done a (part_at (state_of m) r) run.runs),
      was.kept.tidy.parts,
      was.room.results,
    )
