use Rattle.std.proofs.Common.{◌≡◌, ◌≤◌, ◌+◌, ◌++◌, length, take, vec_capacity}
use Rattle.line_rules.proofs.known.add_numbers.Given as goal

abbrev pub invariant-loop-number : goal.invariant-loop-number
invariant-loop-number l =
    (l.list.items ≡ l.initial.list.items ++ take l.number-index l.numbers)
    × (length l.initial.list.items + length l.numbers ≤ vec_capacity l.list)
