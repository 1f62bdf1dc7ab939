use Rattle.wave_arrays.proofs.Bars.{barred_are_listed}
use Rattle.wave_arrays.proofs.build.the_barred_are_those_listed.Goals as goal

pub returns : goal.returns
returns c = barred_are_listed
