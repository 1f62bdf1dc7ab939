use Rattle.std.proofs.Common.{◌≡◌, ◌<◌, ◌≤◌, take}
use Rattle.std.specs.Prelude.{All}
use Rattle.shuffle_reduce.specs.Merged.{PartView}
use Rattle.shuffle_reduce.specs.Indexed.{count_of}
use Rattle.shuffle_reduce.proofs.counts.count_of.Given as goal

abbrev pub invariant-loop-result : goal.invariant-loop-result
invariant-loop-result l = record {
  value : l.count ≡ count_of (take l.result-index l.results) l.part;
  bound : l.count ≤ l.result-index;
  in_range : All (λ (one : PartView). one.part < one.parts) (take l.result-index l.results);
}
