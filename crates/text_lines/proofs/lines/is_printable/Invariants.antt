use Rattle.std.proofs.Common.{ℕ, ◌↔◌, ◌<◌, IsTrue}
use Rattle.std.specs.List.{slice_index_or}
use Rattle.text_lines.specs.Texts.{IsPrintable}
use Rattle.text_lines.proofs.lines.is_printable.Given as goal

abbrev pub invariant-loop-byte : goal.invariant-loop-byte
invariant-loop-byte l =
    IsTrue l.all ↔ ((k : ℕ) (d : ℕ) → k < l.byte-index → IsPrintable (slice_index_or l.line k d))
