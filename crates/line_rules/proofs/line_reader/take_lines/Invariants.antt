use Rattle.std.proofs.Common.{◌+◌, ◌≤◌, IsTrue, length}
use Rattle.std.specs.List.{All}
use Rattle.text_lines.specs.Texts.{IsPrintable, lines_of}
use Rattle.line_rules.proofs.ReadTo.{IsReadTo}
use Rattle.line_rules.proofs.line_reader.take_lines.Given as goal

-- the lines so far have no fault, and each took a byte at least; those that are left may be known to be
-- printable
abbrev pub invariant-loop-after : goal.invariant-loop-after
invariant-loop-after l =
    IsReadTo l.initial.known.purpose l.text (lines_of l.rest) l.lines_read l.known
    × (l.lines_read + length l.rest ≤ length l.text)
    × (IsTrue l.printable → All (All IsPrintable) (lines_of l.rest))

abbrev pub decreases-loop-after : goal.decreases-loop-after
decreases-loop-after l = length l.rest
