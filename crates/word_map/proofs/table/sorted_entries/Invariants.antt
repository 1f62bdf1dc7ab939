use Rattle.word_map.proofs.SortedLemmas.{AreMade}
use Rattle.word_map.proofs.table.sorted_entries.Given as goal

abbrev pub invariant-loop-word : goal.invariant-loop-word
invariant-loop-word g l = AreMade l.fn.table.entries l.word-iterator l.entries.items
