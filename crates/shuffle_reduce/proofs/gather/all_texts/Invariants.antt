use Rattle.std.proofs.Common.{◌≡◌, take}
use Rattle.shuffle_reduce.specs.Gather.{texts_of_runs, values_of}
use Rattle.shuffle_reduce.proofs.gather.all_texts.Given as goal

abbrev pub invariant-loop-run : goal.invariant-loop-run
invariant-loop-run l = values_of l.texts.items ≡ texts_of_runs (take l.run-index l.runs)
