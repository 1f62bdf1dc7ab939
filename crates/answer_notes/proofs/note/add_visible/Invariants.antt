use Rattle.std.proofs.Common.{◌++◌, ◌≡◌, map, take}
use Rattle.answer_notes.specs.Notes.{visible}
use Rattle.answer_notes.proofs.note.add_visible.Given as goal

abbrev pub invariant-loop-byte : goal.invariant-loop-byte
invariant-loop-byte l = l.note.items ≡ l.initial.note.items ++ map visible (take l.byte-index l.piece)
