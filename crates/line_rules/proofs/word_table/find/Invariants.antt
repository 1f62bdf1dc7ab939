use Rattle.std.proofs.Common.{ℕ, ◌≡◌, ◌≢◌, ◌≤◌, ◌<◌, ◌+◌, length}
use Rattle.line_rules.specs.WordTable.{mark_of, word_at}
use Rattle.line_rules.proofs.Chained.{words_of}
use Rattle.line_rules.proofs.word_table.find.Given as goal

abbrev pub invariant-loop-at : goal.invariant-loop-at
invariant-loop-at l =
    let words = words_of l.entries in
    let marks = length l.heads in
    record {
      within : l.at ≤ length l.entries;
      last : (j : ℕ) → j + 1 ≡ l.at → mark_of (word_at words j) marks ≡ mark_of l.word marks;
      none : (j : ℕ) → l.at ≤ j → j < length l.entries → word_at words j ≢ l.word;
    }

abbrev pub decreases-loop-at : goal.decreases-loop-at
decreases-loop-at l = l.at
