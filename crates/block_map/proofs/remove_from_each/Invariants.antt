use Rattle.std.proofs.Common.{◌≡◌, take, drop, ◌++◌, map}
use Rattle.block_map.specs.Holdings.{without}
use Rattle.block_map.proofs.remove_from_each.Given as goal

abbrev pub invariant-loop-holders : goal.invariant-loop-holders
invariant-loop-holders l =
    take l.holders-index l.holders-items ++ map (without l.worker) (drop l.holders-index l.holders-items)
    ≡ map (without l.worker) l.fn.lists.items
