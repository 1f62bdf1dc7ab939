use Rattle.std.proofs.Common.{◌-◌, ◌≡◌, [], slice_index_or}
use Rattle.text_lines.specs.Texts.{lines_of}
use Rattle.answer_notes.proofs.note.line_at.Given as goal

abbrev pub invariant-loop : goal.invariant-loop
invariant-loop l =
    slice_index_or (lines_of l.text) (l.number - 1) []
    ≡ slice_index_or (lines_of l.rest) (l.number - l.counter) []
