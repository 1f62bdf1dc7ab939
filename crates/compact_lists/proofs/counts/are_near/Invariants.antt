use Rattle.std.proofs.Common.{ℕ, ◌-◌, ◌<◌, ◌≤◌, slice_index}
use Rattle.compact_lists.proofs.counts.are_near.Given as goal

abbrev pub invariant-loop-i : goal.invariant-loop-i
invariant-loop-i l =
    (k : ℕ) → k < l.i →
    (slice_index l.base k ≤ slice_index l.counts k) × (slice_index l.counts k - slice_index l.base k < 65536)
