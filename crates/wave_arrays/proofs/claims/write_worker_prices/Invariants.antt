use Rattle.std.proofs.Common.{◌≡◌, length, take}
use Rattle.wave_arrays.proofs.claims.write_worker_prices.Given as goal

abbrev pub invariant-loop-worker : goal.invariant-loop-worker
invariant-loop-worker l = record {
  places : length l.list ≡ length l.prices.workers;
  so_far : take l.worker l.list ≡ take l.worker l.prices.workers;
}
