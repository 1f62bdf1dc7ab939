use Rattle.std.proofs.Common.{◌≡◌, ◌++◌, take, vec_capacity}
use Rattle.shared_master.proofs.waves.with_all.Given as goal

abbrev pub invariant-loop-start : goal.invariant-loop-start
invariant-loop-start l =
    (l.list.items ≡ l.fn.list.items ++ take l.start-index l.more)
    × (vec_capacity l.list ≡ vec_capacity l.fn.list)
