use Rattle.std.proofs.Common.{◌≡◌, take}
use Rattle.block_map.specs.Holdings.{with_holder_of_all}
use Rattle.block_map.proofs.add_to_each.Given as goal

-- the worker holds the members so far
abbrev pub invariant-loop-i : goal.invariant-loop-i
invariant-loop-i l = l.lists.items ≡ with_holder_of_all l.fn.lists.items (take l.i l.members) l.worker
