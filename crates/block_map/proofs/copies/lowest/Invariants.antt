use Rattle.std.proofs.Common.{◌≤◌, ◌<◌, ℕ}
use Rattle.std.specs.List.{Contains, slice_index_or}
use Rattle.block_map.proofs.copies.lowest.Given as goal

abbrev pub invariant-loop-holder : goal.invariant-loop-holder
invariant-loop-holder l =
    Contains l.holders l.lowest × ((k d : ℕ) → k < l.holder-index → l.lowest ≤ slice_index_or l.holders k d)
