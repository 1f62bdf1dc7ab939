use Rattle.text_lines.specs.Streams.{Moves}
use Rattle.text_lines.proofs.streams.write_text.Given as goal

-- what is gone from the rest was written
abbrev pub invariant-loop : goal.invariant-loop
invariant-loop g l =
    Moves (g.W.Write.contents l.initial.writer) (g.W.Write.contents l.writer) l.initial.rest l.rest
