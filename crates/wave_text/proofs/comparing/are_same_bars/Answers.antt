use Rattle.std.proofs.Common.{arith}
use lib.Pointwise.{bytes_decides}
use Rattle.wave_text.proofs.comparing.are_same_bars.Goals as goal

pub loop-number-preserved : goal.loop-number-preserved
loop-number-preserved c s below =
    let same = bytes_decides c.bars.result.now c.bars-in-loop-number.result.now in
    grind (arith, same, c.bars.ensures.row, c.bars-in-loop-number.ensures.row, c.loop-number.invariant s)
