use Rattle.text_lines.proofs.Pieces.{moved_on}
use Rattle.text_lines.proofs.streams.write_text.Goals as goal

pub loop-preserved : goal.loop-preserved
loop-preserved g c = moved_on _ _ _ _ _ _ c.loop.invariant c.in_ok-rest.ensures.ok
