use Rattle.live_master.proofs.Served.{cuts_off}
use Rattle.live_master.proofs.serving.cut_off.Goals as goal

pub returns-in-Err : goal.returns-in-Err
returns-in-Err g c =
    cuts_off _ _ c.args.fault c.in-Err.error c.tell_fault.result c.in-Err.is c.tell_fault.ensures
