use Rattle.std.proofs.Common.{take}
use Rattle.shuffle_reduce.specs.Gather.{AreOfPart}
use Rattle.shuffle_reduce.proofs.part.are_of_part.Given as goal

abbrev pub invariant-loop-run : goal.invariant-loop-run
invariant-loop-run l = AreOfPart (take l.run-index l.runs) l.part l.parts
