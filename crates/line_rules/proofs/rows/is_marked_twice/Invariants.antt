use Rattle.std.proofs.Common.{◌≡◌, ℕ, false, true}
use Rattle.std.specs.List.{slice_index_or}
use Rattle.line_rules.proofs.Numbered.{WasNamed}
use Rattle.line_rules.proofs.rows.is_marked_twice.Given as goal

-- each mark is that of a split that was named
abbrev pub invariant-loop-i : goal.invariant-loop-i
invariant-loop-i l =
    (m : ℕ) → slice_index_or l.marked m false ≡ true → WasNamed l.firsts.entries l.names l.i m
