use Rattle.job_run.proofs.Ran.{splits_named}
use Rattle.job_run.proofs.running.ending_of.Goals as goal

pub add_open-requires : goal.add_open-requires
add_open-requires g c =
    splits_named c.args.names.now c.args.ran.master.setup.cluster c.is_kept.ensures.whole c.requires
