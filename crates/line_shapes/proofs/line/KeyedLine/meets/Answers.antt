use Rattle.line_shapes.proofs.Each.{meet_in, meet_words}
use Rattle.line_shapes.proofs.line.KeyedLine.meets.Goals as goal

pub returns : goal.returns
returns c =
    let line = c.args.self.now in (
      λ t. meet_words c.args.demand line.keyword line.words.now (c.meet.ensures.0 t),
      λ h. c.meet.ensures.1 (meet_in c.args.demand line.keyword line.words.now h),
    )
