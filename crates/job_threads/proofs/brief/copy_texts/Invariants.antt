use Rattle.std.proofs.Common.{◌≡◌, take}
use Rattle.shuffle_reduce.specs.Gather.{values_of}
use Rattle.job_threads.proofs.brief.copy_texts.Given as goal

abbrev pub invariant-loop-text : goal.invariant-loop-text
invariant-loop-text l = values_of l.copied.items ≡ values_of (take l.text-index l.texts)
