use Rattle.std.proofs.Common.{◌≡◌, take}
use Rattle.shuffle_reduce.specs.Gather.{values_of}
use Rattle.shuffle_reduce.proofs.covers.are_equal_texts.Given as goal

abbrev pub invariant-loop-place : goal.invariant-loop-place
invariant-loop-place l = values_of (take l.place l.texts) ≡ values_of (take l.place l.others)
