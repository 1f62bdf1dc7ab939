use Rattle.std.proofs.Common.{◌≡◌, drop, replicate, ◌++◌}
use Rattle.node_ids.proofs.sets.empty.Given as goal

-- the words so far are 0, and the others are as they were
abbrev pub invariant-loop-word : goal.invariant-loop-word
invariant-loop-word l = l.word-items ≡ replicate l.word-index 0 ++ drop l.word-index l.fn.words.items
