use Rattle.master_core.specs.declared.kept.Kept.TheVariants.{Near}
use Rattle.master_core.proofs.Lining.{present_lined}
use Rattle.master_core.proofs.Nearness.{present_is_near, with_engine}
use Rattle.master_core.proofs.Touching.{present_flagged}
use Rattle.master_core.proofs.master.Master.keep_engine.Goals as goal

pub invariant_of-self : goal.invariant_of-self
invariant_of-self c =
    with_engine c.self.invariant (Near c.args.engine) c.clear.new.self (
      present_is_near c.args.engine.wave c.self.invariant c.self.view_is c.requires,
      present_flagged c.self.inside c.args.engine.wave c.clear.new.self c.self.view_is c.requires,
      present_lined c.self.inside c.args.engine.wave c.clear.new.self c.self.view_is c.requires,
    )
