-- The order of the queue.
use Rattle.std.specs.Prelude.{ℕ}
use Rattle.std.specs.Ordering.{nat_cmp, ordering_then}
use Rattle.std.specs.declared.cmp.Ordering.{Ordering}
use Rattle.std.specs.declared.cmp.Reverse.{Reverse}

-- the least distance is the greatest, and then the greatest node
abbrev pub nearer : Reverse ℕ × ℕ → Reverse ℕ × ℕ → Ordering
nearer a b = ordering_then (nat_cmp b.0.0 a.0.0) (nat_cmp a.1 b.1)

-- an entry as its distance and its node
abbrev pub pair_of : Reverse ℕ × ℕ → ℕ × ℕ
pair_of entry = (entry.0.0, entry.1)
