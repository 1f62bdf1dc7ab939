use Rattle.std.proofs.Common.{◌≡◌, drop}
use Rattle.block_map.specs.Holdings.{has_full_among}
use Rattle.block_map.proofs.is_any_full.Given as goal

-- the answer for all members is that for those still to come
abbrev pub invariant-loop-split : goal.invariant-loop-split
invariant-loop-split l =
    has_full_among l.limit l.lists (drop l.split-index l.members) ≡ has_full_among l.limit l.lists l.members
