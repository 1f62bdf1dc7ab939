use Rattle.std.proofs.Common.{◌≡◌, ◌++◌, length, map}
use Rattle.text_lines.specs.Texts.{words_of}
use Rattle.text_lines.proofs.lines.add_words.Given as goal
use denote.Shadow.{shadow}
use denote.Text.{Utf8}

-- the words that were put, and those that are left, are all words
abbrev pub invariant-loop-rest : goal.invariant-loop-rest
invariant-loop-rest l =
    (map (λ w. w.now) l.words.items ++ words_of l.rest
    ≡ map (λ w. w.now) l.initial.words.items ++ words_of l.line)
    × shadow (Utf8 l.rest)

abbrev pub decreases-loop-rest : goal.decreases-loop-rest
decreases-loop-rest l = length l.rest
