-- The splits with which a worker joins again, one number after another.
use Rattle.std.proofs.Common.{◌≡◌, ℕ, ◌+◌, inl, inr, List, refl, subst, arith}
use Rattle.std.specs.Prelude.{Option, IsTrue}
use Rattle.std.proofs.lemmas.Bool.{cases_eq, cases_lt, eq-eqb, ne_eqb}
use Rattle.node_ids.specs.Sets.{is_in_row, row_with}
use Rattle.node_ids.proofs.Rows.{in-row_with}
use Rattle.job_threads.specs.declared.holdings.Holding.{Holding}
use Rattle.job_threads.specs.Holdings.{AreReturning, may_return}

-- the next one is put in where it may return
pub returning_more : (workers : List Holding) (h : Option Holding) (n : ℕ) (old : List ℕ) →
    AreReturning workers n h old → IsTrue (may_return workers h n) →
    AreReturning workers (n + 1) h (row_with n old)
returning_more workers h n old all may k = (
  (λ has. elim (cases_eq n k) [
    | inl here ↦ (omega (arith, here), subst (λ (m : ℕ). IsTrue (may_return workers h m)) here may)
    | inr other ↦
        let before : IsTrue (is_in_row old k) = rw (in-row_with n old k, ne_eqb n k other) at has in
        let known = (all k).0 before in (omega (arith, known.0), known.1)
  ]),
  (λ given. elim (cases_eq n k) [
    | inl here ↦ rw (in-row_with n old k, eq-eqb n k here) refl
    | inr other ↦
        rw (in-row_with n old k, ne_eqb n k other)
        ((all k).1 (omega (arith, given.0, other), given.1))
  ]),
)

-- and else it is not
pub returning_same : (workers : List Holding) (h : Option Holding) (n : ℕ) (old : List ℕ) →
    AreReturning workers n h old → (IsTrue (may_return workers h n) → ⊥) → AreReturning workers (n + 1) h old
returning_same workers h n old all not k = (
  (λ has. let known = (all k).0 has in (omega (arith, known.0), known.1)),
  (λ given. elim (cases_lt k n) [
    | inl before ↦ (all k).1 (before, given.1)
    | inr past ↦
        let here : k ≡ n = omega (arith, past, given.0) in
        absurd (not (subst (λ (m : ℕ). IsTrue (may_return workers h m)) here given.1))
  ]),
)
