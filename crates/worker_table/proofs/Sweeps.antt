-- What every worker of a table keeps, it keeps after a sweep.
use Rattle.std.proofs.Common.{◌≡◌, ℕ, ◌+◌, ◌<◌, List, [], ◌∷◌, ◌++◌, All, length, arith}
use Rattle.std.specs.List.{AllByRecursion, range_with_len}
use Rattle.std.proofs.lemmas.List.{length-map}
use Rattle.std.proofs.lemmas.List.FromFn.{get_or-range_with_len, length-enumerate_from, length-range_with_len}
use Rattle.std.proofs.lemmas.List.Elements.{All-append, All-cons, All-filter, All-from_recursion, All-nil}
use Rattle.std.proofs.lemmas.List.Elements.{All-weaker, recursion_from_All}
use Rattle.worker_table.specs.Workers.{Workers, IsTable, IsWithin, heard_from, is_silent, silent_in, swept}
use Rattle.worker_table.specs.declared.Worker.{Worker}

pub length-heard_from : (n limit : ℕ) (each : List Worker) (counts : List ℕ) →
    length (heard_from n limit each counts) ≡ length each
length-heard_from n limit each counts = grind (arith, length-map, length-enumerate_from)

within_each : (n limit : ℕ) (each : List Worker) (counts : List ℕ) → AllByRecursion (IsWithin limit) each →
    AllByRecursion (IsWithin limit) (heard_from n limit each counts)
within_each n limit [] counts within = tt
within_each n limit (worker ∷ each) counts within =
    grind (arith, within_each (n + 1) limit each counts within.1)

pub table_swept : (t : Workers) (counts : List ℕ) → IsTable t → IsTable (swept t counts)
table_swept t counts table =
    grind (arith, length-heard_from, All-from_recursion, within_each, recursion_from_All)

-- a number behind those below it
pub below_push : (items : List ℕ) (n : ℕ) → All (λ k. k < n) items → All (λ k. k < n + 1) (items ++ n ∷ [])
below_push items n below =
    All-append (λ k. k < n + 1) items (n ∷ [])
    (All-weaker (λ k. k < n) (λ k. k < n + 1) (λ k less. omega (arith, less)) items below)
    (All-cons (λ k. k < n + 1) n [] (omega arith) (All-nil (λ k. k < n + 1)))

-- who is silent is one of the table
pub silent_below : (t : Workers) → All (λ w. w < length t.each) (silent_in t)
silent_below t =
    let n = length t.each in
    All-filter (is_silent t) (λ w. w < n) (range_with_len 0 n)
    (λ k d less.
    let within : k < n = omega (arith, less, length-range_with_len 0 n) in
    rw (get_or-range_with_len 0 n k d within) (omega (arith, within)))
