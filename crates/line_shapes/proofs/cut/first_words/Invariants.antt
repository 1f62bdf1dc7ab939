use Rattle.std.proofs.Common.{◌≡◌, ◌++◌, ◌-◌, map}
use Rattle.line_shapes.specs.Lines.{first_words}
use Rattle.line_shapes.proofs.cut.first_words.Given as goal
use denote.Shadow.{shadow}
use denote.Text.{Utf8}

-- what was cut, and what is left to cut, are the first words of all
abbrev pub invariant-loop-number : goal.invariant-loop-number
invariant-loop-number l =
    (first_words l.count l.text ≡ map (λ w. w.now) l.words.items ++ first_words (l.count - l.number) l.rest)
    × shadow (Utf8 l.rest)
