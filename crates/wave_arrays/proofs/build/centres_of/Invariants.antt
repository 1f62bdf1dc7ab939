use Rattle.std.proofs.Common.{◌≡◌, take}
use Rattle.wave_arrays.proofs.build.centres_of.Given as goal

abbrev pub invariant-loop-number : goal.invariant-loop-number
invariant-loop-number l = l.centres.items ≡ take l.number-index l.numbers
