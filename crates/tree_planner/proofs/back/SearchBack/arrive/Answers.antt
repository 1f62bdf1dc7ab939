use Rattle.std.proofs.Common.{◌<◌, arith}
use Rattle.tree_planner.proofs.ImprovedBack.{arrive_kept}
use Rattle.tree_planner.proofs.back.SearchBack.arrive.Goals as goal

pub returns-then-distance-self-clause-kept : goal.returns-then-distance-self-clause-kept
returns-then-distance-self-clause-kept c = λ h s ends.
    (let nearer : c.args.distance < c.args.self.now.bound = omega arith in
    arrive_kept c.args.self.now c.args.goal c.args.distance nearer h s (ends nearer))
