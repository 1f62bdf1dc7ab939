use Rattle.std.proofs.Common.{◌≡◌, take}
use Rattle.shuffle_reduce.specs.Gather.{AreOfPart, texts_of_runs}
use Rattle.master_core.proofs.reducing.runs_of.Given as goal

abbrev pub invariant-loop-entry : goal.invariant-loop-entry
invariant-loop-entry l = record {
  of_part : AreOfPart l.runs.items l.part l.cluster.parts;
  texts : texts_of_runs l.runs.items ≡ take l.entry-index l.cluster.texts;
}
