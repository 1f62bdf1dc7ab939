use Rattle.std.proofs.Common.{take}
use Rattle.shuffle_reduce.specs.Gather.{values_of}
use Rattle.shuffle_reduce.specs.Indexed.{AreReady}
use Rattle.shuffle_reduce.proofs.index.are_ready.Given as goal

abbrev pub invariant-loop-one : goal.invariant-loop-one
invariant-loop-one l = AreReady l.parts (values_of l.texts) (take l.one-index l.results)
