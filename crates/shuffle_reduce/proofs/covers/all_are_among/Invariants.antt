use Rattle.std.proofs.Common.{take}
use Rattle.std.specs.Prelude.{Contains}
use Rattle.word_map.specs.Texts.{SplitDocuments}
use Rattle.shuffle_reduce.specs.Gather.{values_of}
use Rattle.shuffle_reduce.proofs.covers.all_are_among.Given as goal

-- each so far
abbrev pub invariant-loop-text : goal.invariant-loop-text
invariant-loop-text l = (text : SplitDocuments) → Contains (values_of (take l.text-index l.texts)) text →
    Contains (values_of l.others) text
