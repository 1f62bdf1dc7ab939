use Rattle.tree_planner.specs.SearchingBack.{wave_of}
use Rattle.tree_planner.proofs.Added.{over_sized}
use Rattle.tree_planner.proofs.ImprovedBack.{settle_at, settle_kept, settle_settles}
use Rattle.tree_planner.proofs.back.SearchBack.settle.Goals as goal

pub returns-clause-kept : goal.returns-clause-kept
returns-clause-kept c = λ h s nearest.
    settle_kept h c.args.self.now c.set.new.self c.args.node s nearest
    (over_sized (wave_of h).tree c.args.self.now.order c.set.new.self s.tables.order c.set.ensures.size)
    (c.set.ensures.here 0) (c.set.ensures.others 0)

pub returns-clause-at : goal.returns-clause-at
returns-clause-at c = λ h s nearest.
    settle_at h c.args.self.now c.set.new.self c.args.node s nearest
    (over_sized (wave_of h).tree c.args.self.now.order c.set.new.self s.tables.order c.set.ensures.size)
    (c.set.ensures.here 0) (c.set.ensures.others 0)

pub returns-clause-settles : goal.returns-clause-settles
returns-clause-settles c = λ h s nearest.
    settle_settles h c.args.self.now c.set.new.self c.args.node s nearest
    (over_sized (wave_of h).tree c.args.self.now.order c.set.new.self s.tables.order c.set.ensures.size)
    (c.set.ensures.here 0) (c.set.ensures.others 0)
