use Rattle.std.proofs.Common.{◌≡◌, ℕ, ◌-◌, ◌<◌, ◌≤◌, length}
use Rattle.word_map.specs.Words.{letter_at}
use Rattle.word_map.proofs.tokens.span_end.Given as goal

abbrev pub invariant-loop-stop : goal.invariant-loop-stop
invariant-loop-stop l = record {
  order : l.start ≤ l.stop;
  within : l.stop ≤ length l.bytes;
  same : (place : ℕ) → l.start ≤ place → place < l.stop → letter_at l.bytes place ≡ l.letters;
}

abbrev pub decreases-loop-stop : goal.decreases-loop-stop
decreases-loop-stop l = length l.bytes - l.stop
