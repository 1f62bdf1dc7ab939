use Rattle.std.proofs.Common.{◌≡◌, ◌≤◌, ◌+◌, ◌++◌, length, take, vec_capacity}
use Rattle.line_rules.proofs.line_list.add_words.Given as goal

abbrev pub invariant-loop-word : goal.invariant-loop-word
invariant-loop-word l =
    (l.list.items ≡ l.initial.list.items ++ take l.word-index l.words)
    × (length l.initial.list.items + length l.words ≤ vec_capacity l.list)
