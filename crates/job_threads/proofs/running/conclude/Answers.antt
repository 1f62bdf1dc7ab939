use Rattle.std.proofs.Common.{◌≡◌, ap, inr, rules, Err}
use Rattle.job_threads.specs.declared.outcome.RunError.TheVariants.{HistoryFull}
use Rattle.job_threads.proofs.Chains.{concluded_full, concluded_ok}
use Rattle.job_threads.proofs.running.conclude.Goals as goal

pub returns-in-Ok-settled-clause-ends : goal.returns-in-Ok-settled-clause-ends
returns-in-Ok-settled-clause-ends g c =
    rw c.in-Ok.is (concluded_ok _ _ _ _ c.closed.result c.in-Ok-settled.ensures.0 c.into_master.ensures
    c.in-Ok-settled.ensures.1 c.closed.ensures.ok c.closed.ensures.err)

pub returns-in-Err-settled-clause-ends : goal.returns-in-Err-settled-clause-ends
returns-in-Err-settled-clause-ends g c =
    rw c.in-Ok.is (
      c.into_master.result.job,
      c.into_master.ensures,
      inr (
        c.in-Err-settled.ensures.0,
        c.in-Err-settled.ensures.1,
        ap Err c.in-Err-settled.ensures.2,
      ),
    )

pub returns-in-Err-HistoryFull-clause-ends : goal.returns-in-Err-HistoryFull-clause-ends
returns-in-Err-HistoryFull-clause-ends g c =
    let end : c.args.ended.end ≡ Err HistoryFull = search rules in
    concluded_full _ _ c.into_master-in-Err-HistoryFull.result.job _ c.settled-in-Err-HistoryFull.result _ end
    c.into_master-in-Err-HistoryFull.ensures c.settled-in-Err-HistoryFull.ensures
    c.full_or_torn.ensures.full c.full_or_torn.ensures.torn
