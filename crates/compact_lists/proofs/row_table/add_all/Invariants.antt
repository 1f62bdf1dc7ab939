use Rattle.std.proofs.Common.{◌≡◌, ◌++◌, take, vec_capacity}
use Rattle.compact_lists.proofs.row_table.add_all.Given as goal

abbrev pub invariant-loop-item : goal.invariant-loop-item
invariant-loop-item g l =
    (l.list.items ≡ l.fn.list.items ++ take l.item-index l.more)
    × (vec_capacity l.list ≡ vec_capacity l.fn.list)
