use Rattle.std.proofs.Common.{◌≡◌, ℕ, ◌<◌}
use Rattle.shuffle_reduce.specs.Indexed.{count_of}
use Rattle.shuffle_reduce.proofs.counts.has_missing.Given as goal

abbrev pub invariant-loop-part : goal.invariant-loop-part
invariant-loop-part l = (part : ℕ) → part < l.part → count_of l.results part ≡ 0 → ⊥
