use Rattle.std.proofs.Common.{◌++◌, ◌≡◌, replicate}
use Rattle.answer_notes.proofs.note.add_times.Given as goal

abbrev pub invariant-loop : goal.invariant-loop
invariant-loop l = l.note.items ≡ l.initial.note.items ++ replicate l.counter l.byte
