use Rattle.std.proofs.Common.{ℕ, ◌≡◌, ◌<◌, get_or}
use Rattle.wave_text.proofs.comparing.are_in_same_racks.Given as goal

abbrev pub invariant-loop-number : goal.invariant-loop-number
invariant-loop-number l = (k : ℕ) → k < l.number → get_or l.tree.rack_of k 0 ≡ get_or l.other.rack_of k 0
