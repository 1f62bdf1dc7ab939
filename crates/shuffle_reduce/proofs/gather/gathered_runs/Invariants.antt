use Rattle.std.proofs.Common.{take}
use Rattle.word_map.specs.Entries.{pairs_of_index}
use Rattle.shuffle_reduce.specs.Gather.{GathersRuns}
use Rattle.shuffle_reduce.proofs.gather.gathered_runs.Given as goal

abbrev pub invariant-loop-run : goal.invariant-loop-run
invariant-loop-run g l = GathersRuns (take l.run-index l.runs) (pairs_of_index l.table)
