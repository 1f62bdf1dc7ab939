use Rattle.std.proofs.Common.{◌<◌, arith}
use Rattle.tree_planner.proofs.Improved.{arrive_kept}
use Rattle.tree_planner.proofs.search.Search.arrive.Goals as goal

pub returns-then-distance-self-clause-kept : goal.returns-then-distance-self-clause-kept
returns-then-distance-self-clause-kept c = λ g s ends.
    (let nearer : c.args.distance < c.args.self.now.bound = omega arith in
    arrive_kept c.args.self.now c.args.goal c.args.distance nearer g s (ends nearer))
