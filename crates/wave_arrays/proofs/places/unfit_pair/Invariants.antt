use Rattle.std.specs.List.{AllWithin}
use Rattle.wave_arrays.specs.Rows.{IsPairKnown, pairs_in}
use Rattle.wave_arrays.proofs.places.unfit_pair.Given as goal

abbrev pub invariant-loop-place : goal.invariant-loop-place
invariant-loop-place l = AllWithin (IsPairKnown l.splits l.workers) (pairs_in l.rows.barred) 0 l.place
