use Rattle.std.proofs.Common.{ℕ, ◌≡◌, ◌==◌, ◌<◌, false, get_or}
use Rattle.text_lines.proofs.lines.first_space_from.Given as goal

abbrev pub invariant-loop-at : goal.invariant-loop-at
invariant-loop-at l = (k : ℕ) → k < l.at → (get_or l.line k 0 == 32) ≡ false
