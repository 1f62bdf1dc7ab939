use Rattle.std.proofs.Common.{◌≡◌, Ok}
use Rattle.job_threads.specs.Telling.{HasWorked}
use Rattle.job_threads.proofs.work.work.Given as goal

abbrev pub invariant-loop : goal.invariant-loop
invariant-loop g l = record {
  worked : HasWorked g.L.OfJob.setup l.orders l.hand;
  well : l.end ≡ Ok tt;
}
