use Rattle.written_plan.proofs.ReadBack.{written_plan_reads_back}
use Rattle.written_plan.proofs.a_written_plan_reads_back.Goals as goal

pub returns : goal.returns
returns c = written_plan_reads_back
