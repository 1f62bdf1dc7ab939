use Rattle.std.proofs.Common.{ℕ, ◌≡◌, ◌<◌, ◌^◌, drop}
use Rattle.std.specs.List.{slice_index_or}
use Rattle.text_lines.specs.Texts.{IsDigit, number_from, number_of}
use Rattle.text_lines.proofs.number.value_from.Given as goal

-- the rest is read on from the value of the digits so far, of which each makes it ten times as great at most
abbrev pub invariant-loop-i : goal.invariant-loop-i
invariant-loop-i l =
    (number_of l.bytes ≡ number_from l.value (drop l.i l.bytes))
    × ((k d : ℕ) → k < l.i → IsDigit (slice_index_or l.bytes k d))
    × (l.value < 10 ^ l.i)
