use Rattle.tree_planner.specs.Searching.{wave_of}
use Rattle.tree_planner.proofs.Added.{over_sized}
use Rattle.tree_planner.proofs.Improved.{settle_at, settle_kept, settle_settles}
use Rattle.tree_planner.proofs.search.Search.settle.Goals as goal

pub returns-clause-kept : goal.returns-clause-kept
returns-clause-kept c = λ g s nearest.
    rw c.close.ensures (settle_kept g c.args.self.now c.set.new.self c.args.node s nearest.fresh
    (over_sized (wave_of g).tree c.args.self.now.order c.set.new.self s.tables.order c.set.ensures.size)
    (c.set.ensures.here 0) (c.set.ensures.others 0) nearest)

pub returns-clause-at : goal.returns-clause-at
returns-clause-at c = λ g s nearest.
    rw c.close.ensures (settle_at g c.args.self.now c.set.new.self c.args.node s nearest.fresh
    (over_sized (wave_of g).tree c.args.self.now.order c.set.new.self s.tables.order c.set.ensures.size)
    (c.set.ensures.here 0) (c.set.ensures.others 0) nearest)

pub returns-clause-settles : goal.returns-clause-settles
returns-clause-settles c = λ g s nearest.
    rw c.close.ensures (settle_settles g c.args.self.now c.set.new.self c.args.node s nearest.fresh
    (over_sized (wave_of g).tree c.args.self.now.order c.set.new.self s.tables.order c.set.ensures.size)
    (c.set.ensures.here 0) (c.set.ensures.others 0))
