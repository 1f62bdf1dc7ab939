use Rattle.std.proofs.Common.{arith}
use Rattle.std.proofs.lemmas.Grind.{common_steps}
use Rattle.std.proofs.lemmas.List.FromFn.{get_or-range_with_len}
use Rattle.job_threads.proofs.common.Flags.go_on.Goals as goal

pub invariant_of-result-clause-own : goal.invariant_of-result-clause-own
invariant_of-result-clause-own c =
    grind (arith, common_steps, get_or-range_with_len)
