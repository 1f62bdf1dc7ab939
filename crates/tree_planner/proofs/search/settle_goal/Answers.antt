use Rattle.std.proofs.Common.{arith}
use Rattle.tree_planner.specs.Searching.{wave_of}
use Rattle.tree_planner.proofs.Added.{over_sized}
use Rattle.tree_planner.proofs.Looked.{found_goal}
use Rattle.tree_planner.proofs.search.settle_goal.Goals as goal

pub returns-then-get-eq0-clause-searched : goal.returns-then-get-eq0-clause-searched
returns-then-get-eq0-clause-searched c =
    let g = c.args.ground.now in
    let old = c.args.search.now in
    let new = c.settle.new.self in
    found_goal g old new c.in-Slot.node c.requires.searching c.requires.started c.requires.looked c.in-Slot.is
    (let is = c.get.ensures 0 in let none = c.if-get-eq0.true in omega arith)
    c.settle.ensures.rest
    (over_sized (wave_of g).tree old.order new.order c.requires.searching.tables.order c.settle.ensures.size)
    c.settle.ensures.here c.settle.ensures.others
