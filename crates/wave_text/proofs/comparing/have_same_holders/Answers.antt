use Rattle.std.proofs.Common.{arith}
use lib.Pointwise.{bytes_decides}
use Rattle.wave_text.proofs.comparing.have_same_holders.Goals as goal

pub returns : goal.returns
returns c = grind (arith, bytes_decides c.holders.result.now c.holders-2.result.now)
