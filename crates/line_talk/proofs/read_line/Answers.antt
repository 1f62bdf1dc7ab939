use Rattle.std.proofs.Common.{Bool, subst, sym}
use Rattle.line_talk.specs.Talks.{IsBegun}
use Rattle.line_talk.proofs.Lines.{begun_nothing, begun_part, ended_whole}
use Rattle.line_talk.proofs.read_line.Goals.{in-Part, in-Nothing}
use Rattle.line_talk.proofs.read_line.Goals as goal

pub returns-in-Last : goal.returns-in-Last
returns-in-Last g c =
    ended_whole _ _ _ _ _ _ _ _ c.in_ok-take_piece.field-0 c.in-Last.is c.loop.invariant c.in_ok-take_piece.ensures

pub loop-preserved : goal.loop-preserved
loop-preserved g c = elim c.match-branch-2.branch [
  | in-Part w ↦ subst (λ (b : Bool). IsBegun c.args.most c.args.line.now.items c.take_piece.new.line.items
      (g.R.Read.remaining c.args.reader.now) (g.R.Read.remaining c.take_piece.new.reader) b) (sym w.is_begun-is)
      (begun_part _ _ _ _ _ _ _ _ c.in_ok-take_piece.field-0 w.in-Part.is c.loop.invariant
      c.in_ok-take_piece.ensures)
  | in-Nothing w ↦ subst (λ (b : Bool). IsBegun c.args.most c.args.line.now.items c.take_piece.new.line.items
      (g.R.Read.remaining c.args.reader.now) (g.R.Read.remaining c.take_piece.new.reader) b) (sym w.is_begun-is)
      (begun_nothing _ _ _ _ _ _ _ _ c.in_ok-take_piece.field-0 w.in-Nothing.is c.loop.invariant
      c.in_ok-take_piece.ensures)
]
