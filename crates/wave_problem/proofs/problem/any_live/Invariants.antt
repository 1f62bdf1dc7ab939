use Rattle.std.proofs.Common.{◌≡◌, take, []}
use Rattle.wave_problem.specs.Wave.{live_among}
use Rattle.wave_problem.proofs.problem.any_live.Given as goal

abbrev pub invariant-loop-worker : goal.invariant-loop-worker
invariant-loop-worker l = live_among l.workers (take l.worker-index l.holders) ≡ []
