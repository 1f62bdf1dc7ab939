use Rattle.std.proofs.Common.{arith}
use Rattle.std.proofs.lemmas.Grind.{common_steps}
use Rattle.std.proofs.lemmas.List.{map-append}
use Rattle.job_threads.proofs.lanes.new_ways.Goals as goal

pub loop-slots-preserved : goal.loop-slots-preserved
loop-slots-preserved c = record {
  places = grind (arith, common_steps, map-append);
  passes = grind (arith, common_steps, map-append);
}
