use Rattle.std.proofs.Common.{ℕ, [], ◌≡◌, ◌<◌, get_or}
use Rattle.wave_text.proofs.comparing.are_same_bars.Given as goal

abbrev pub invariant-loop-number : goal.invariant-loop-number
invariant-loop-number l = (s : ℕ) → s < l.number → get_or l.wave.barred s [] ≡ get_or l.other.barred s []
