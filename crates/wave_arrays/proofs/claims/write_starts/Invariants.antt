use Rattle.std.proofs.Common.{◌≡◌, length, map, take}
use Rattle.wave_arrays.specs.Claims.{start_in}
use Rattle.wave_arrays.proofs.claims.write_starts.Given as goal

abbrev pub invariant-loop-split : goal.invariant-loop-split
invariant-loop-split l = record {
  places : length l.starts ≡ length l.plan.starts;
  so_far : map start_in (take l.split l.starts) ≡ take l.split l.plan.starts;
}
