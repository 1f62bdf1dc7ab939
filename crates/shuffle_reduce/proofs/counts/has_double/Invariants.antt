use Rattle.std.proofs.Common.{ℕ, ◌<◌}
use Rattle.std.specs.Prelude.{All}
use Rattle.shuffle_reduce.specs.Merged.{PartView}
use Rattle.shuffle_reduce.specs.Indexed.{count_of}
use Rattle.shuffle_reduce.proofs.counts.has_double.Given as goal

abbrev pub invariant-loop-part : goal.invariant-loop-part
invariant-loop-part l = record {
  single : (part : ℕ) → part < l.part → count_of l.results part < 2;
  in_range : 0 < l.part → All (λ (one : PartView). one.part < one.parts) l.results;
}
