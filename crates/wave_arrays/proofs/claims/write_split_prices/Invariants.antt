use Rattle.std.proofs.Common.{◌≡◌, length, take}
use Rattle.wave_arrays.proofs.claims.write_split_prices.Given as goal

abbrev pub invariant-loop-split : goal.invariant-loop-split
invariant-loop-split l = record {
  places : length l.list ≡ length l.prices.splits;
  so_far : take l.split l.list ≡ take l.split l.prices.splits;
}
