use Rattle.std.proofs.Common.{arith, length, ℕ, List, inl, inr}
use Rattle.std.specs.List.{All}
use Rattle.std.specs.Str.{IsAscii}
use Rattle.std.proofs.lemmas.Bool.{cases_lt}
use Rattle.std.proofs.lemmas.List.{get_or_past}
use Rattle.std.proofs.lemmas.Str.{IsUtf8-from_ascii}
use Rattle.text_lines.specs.Texts.{IsPrintable}
use Rattle.text_lines.proofs.lines.printable_in.Goals as goal

ascii : (line : List ℕ) → All IsPrintable line → IsAscii line
ascii line h i = elim (cases_lt i (length line)) [
  | inl lt ↦ let fits = (h i 0 lt).1 in omega arith
  | inr past ↦ rw (get_or_past line i 0 past) (omega arith)
]

pub from_utf8_unchecked-requires : goal.from_utf8_unchecked-requires
from_utf8_unchecked-requires c =
    IsUtf8-from_ascii c.args.line.now
    (ascii c.args.line.now (c.has_printable.ensures.0 c.if-has_printable.true))
