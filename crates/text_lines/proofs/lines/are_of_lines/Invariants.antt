use Rattle.std.proofs.Common.{ℕ, ◌<◌, IsTrue}
use Rattle.std.specs.List.{slice_index_or}
use Rattle.text_lines.specs.Texts.{IsOfLine}
use Rattle.text_lines.proofs.lines.are_of_lines.Given as goal

abbrev pub invariant-loop-byte : goal.invariant-loop-byte
invariant-loop-byte l =
    IsTrue l.all → (k : ℕ) (d : ℕ) → k < l.byte-index → IsOfLine (slice_index_or l.text k d)
