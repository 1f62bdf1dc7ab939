use Rattle.std.proofs.Common.{take}
use Rattle.word_map.specs.Entries.{pairs_of_index}
use Rattle.shuffle_reduce.specs.Gather.{GathersResults}
use Rattle.shuffle_reduce.proofs.gather.gathered_results.Given as goal

abbrev pub invariant-loop-part : goal.invariant-loop-part
invariant-loop-part l = GathersResults (take l.part-index l.results) (pairs_of_index l.table)
