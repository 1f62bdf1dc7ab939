use Rattle.std.proofs.Common.{refl}
use Rattle.tree_planner.proofs.Gained.{own_line}
use Rattle.tree_planner.proofs.kept.Engine.lose_down_to.Goals as goal

pub loop-k-init : goal.loop-k-init
loop-k-init c = record { only = own_line c.args.self.now.wave c.args.worker; live = refl }
