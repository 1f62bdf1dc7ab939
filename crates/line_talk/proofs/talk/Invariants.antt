use Rattle.line_talk.specs.Talks.{AtTurn, IsSettled}
use Rattle.line_talk.specs.declared.Turn.TheVariants.{More}
use Rattle.line_talk.proofs.talk.Given as goal

abbrev pub invariant-loop : goal.invariant-loop
invariant-loop g l = record {
  ready : g.T.Talker.ready l.talker;
  settled : IsSettled (AtTurn g.T.Talker.Replies More) (g.R.Read.remaining l.initial.reader)
      (g.R.Read.remaining l.reader) (g.W.Write.contents l.initial.writer) (g.W.Write.contents l.writer)
      l.initial.talker l.talker;
}
