use Rattle.std.proofs.Common.{take}
use Rattle.std.specs.Prelude.{Contains}
use Rattle.word_map.specs.Entries.{pairs_of_index}
use Rattle.word_map.specs.Table.{AddsPairs}
use Rattle.word_map.proofs.table.WordTable.add.Given as goal

abbrev pub invariant-loop-entry : goal.invariant-loop-entry
invariant-loop-entry g l = AddsPairs l.fn.self l.self (Contains (pairs_of_index (take l.entry-index l.entries)))
