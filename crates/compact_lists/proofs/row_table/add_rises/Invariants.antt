use Rattle.std.proofs.Common.{◌≡◌, ◌++◌, take, vec_capacity}
use Rattle.compact_lists.specs.Counts.{rises_over}
use Rattle.compact_lists.proofs.row_table.add_rises.Given as goal

abbrev pub invariant-loop-i : goal.invariant-loop-i
invariant-loop-i l =
    (l.list.items ≡ l.fn.list.items ++ rises_over (take l.i l.base) (take l.i l.counts))
    × (vec_capacity l.list ≡ vec_capacity l.fn.list)
