use Rattle.std.proofs.Common.{arith}
use Rattle.std.proofs.lemmas.Grind.{common_steps}
use Rattle.text_lines.proofs.streams.read_piece.Goals as goal

pub returns-in_ok-map_err-in-Ok-clause-ok : goal.returns-in_ok-map_err-in-Ok-clause-ok
returns-in_ok-map_err-in-Ok-clause-ok g c = grind (arith, common_steps)
