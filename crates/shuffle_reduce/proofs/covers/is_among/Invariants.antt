use Rattle.std.proofs.Common.{take}
use Rattle.std.specs.Prelude.{Contains}
use Rattle.shuffle_reduce.specs.Gather.{values_of}
use Rattle.shuffle_reduce.proofs.covers.is_among.Given as goal

-- none so far
abbrev pub invariant-loop-other : goal.invariant-loop-other
invariant-loop-other l = Contains (values_of (take l.other-index l.others)) l.text → ⊥
