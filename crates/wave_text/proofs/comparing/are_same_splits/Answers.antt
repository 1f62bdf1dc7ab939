use Rattle.std.proofs.Common.{arith, false, []}
use Rattle.std.proofs.lemmas.List.{ext_get_or}
use Rattle.wave_text.proofs.comparing.are_same_splits.Goals as goal

pub returns : goal.returns
returns c = grind (
  arith,
  ext_get_or (record { bytes = 0; pending = false; holders = [] })
      c.args.wave.now.splits c.args.other.now.splits,
)
