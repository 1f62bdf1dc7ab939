use Rattle.line_talk.specs.Talks.{IsBegun}
use Rattle.line_talk.proofs.read_line.Given as goal

abbrev pub invariant-loop : goal.invariant-loop
invariant-loop g l = IsBegun l.most l.initial.line.items l.line.items (g.R.Read.remaining l.initial.reader)
    (g.R.Read.remaining l.reader) l.is_begun
