use Rattle.std.proofs.Common.{ℕ, ◌≤◌, length}
use Rattle.std.specs.List.{All, Contains}
use Rattle.text_lines.specs.Texts.{Word, words_of}
use Rattle.line_rules.specs.Long.{HasFirst, HaveFirst}
use Rattle.line_rules.proofs.long.worst_in.Given as goal
use denote.Shadow.{shadow}
use denote.Text.{Utf8}

-- the words that are left are some of all; the worst so far is one of those before, and has no more than they
-- have; and so have the marked words
abbrev pub invariant-loop-least : goal.invariant-loop-least
invariant-loop-least l = record {
  some : (w : Word) → Contains (words_of l.rest) w → Contains (words_of l.left) w;
  one : l.least ≤ 3 → Contains (words_of l.left) l.worst;
  most : (n : ℕ) → n ≤ 3 → HasFirst n l.version l.rows l.place l.worst → n ≤ l.least;
  others : (n : ℕ) → n ≤ 3 → n ≤ l.least → All (HasFirst n l.version l.rows l.place) (words_of l.rest)
      → All (HasFirst n l.version l.rows l.place) (words_of l.left);
  bounded : l.least ≤ 3;
  marked : HaveFirst l.version l.rows l.place l.least l.marked;
  rest_text : shadow (Utf8 l.rest);
  worst_text : shadow (Utf8 l.worst);
}

abbrev pub decreases-loop-least : goal.decreases-loop-least
decreases-loop-least l = length l.rest
