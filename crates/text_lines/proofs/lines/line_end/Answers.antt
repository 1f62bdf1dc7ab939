use Rattle.std.proofs.Common.{◌==◌}
use Rattle.text_lines.proofs.FirstByte.{position-first}
use Rattle.text_lines.proofs.lines.line_end.Goals as goal

pub returns : goal.returns
returns c = position-first (λ b. b == 10) c.args.text.now c.memchr.result c.memchr.ensures
