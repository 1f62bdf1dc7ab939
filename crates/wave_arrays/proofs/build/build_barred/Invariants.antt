use Rattle.std.proofs.Common.{◌≡◌, length, take}
use Rattle.wave_arrays.specs.Rows.{barred_in, pairs_in}
use Rattle.wave_arrays.proofs.build.build_barred.Given as goal

abbrev pub invariant-loop-place : goal.invariant-loop-place
invariant-loop-place l = record {
  so_far : l.set ≡ barred_in l.splits (take l.place (pairs_in l.pairs));
  room : length l.set ≡ l.splits;
}
