use Rattle.std.proofs.Common.{take}
use Rattle.std.specs.Prelude.{All}
use Rattle.master_core.specs.Near.{IsTouched, IsWorkerTouched, StaysTouched}
use Rattle.master_core.proofs.touched.Touched.touch_each.Given as goal

abbrev pub invariant-loop-pair : goal.invariant-loop-pair
invariant-loop-pair l = record {
  splits : All (λ pair. IsTouched l.self pair.0) (take l.pair-index l.pairs);
  workers : All (λ pair. IsWorkerTouched l.self pair.1) (take l.pair-index l.pairs);
  before : StaysTouched l.fn.self l.self;
}
