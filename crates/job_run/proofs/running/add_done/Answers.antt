use Rattle.std.proofs.Common.{arith}
use Rattle.job_run.proofs.Ran.{splits_named}
use Rattle.job_run.proofs.running.add_done.Goals as goal

pub add_history-requires : goal.add_history-requires
add_history-requires c =
    let whole = c.is_kept.ensures.whole in
    let same = splits_named c.args.names.now c.args.master.now.setup.cluster whole c.requires.named in
    let few = whole.few_splits in
    omega (arith, same, few)
