use Rattle.master_state.proofs.Promises.{every_wave_is_best}
use Rattle.master_state.proofs.laws.every_wave_is_best.Goals as goal

pub returns : goal.returns
returns c = every_wave_is_best
