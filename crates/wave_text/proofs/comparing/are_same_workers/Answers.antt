use Rattle.std.proofs.Common.{arith, false}
use Rattle.std.proofs.lemmas.List.{ext_get_or}
use Rattle.wave_text.proofs.comparing.are_same_workers.Goals as goal

pub returns : goal.returns
returns c = grind (
  arith,
  ext_get_or (record { live = false; free = 0 })
      c.args.wave.now.workers c.args.other.now.workers,
)
