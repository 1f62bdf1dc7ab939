use Rattle.std.proofs.Common.{arith}
use Rattle.tree_planner.proofs.covers.without_workers.Goals as goal

pub from_lists-requires-clause-few_racks : goal.from_lists-requires-clause-few_racks
from_lists-requires-clause-few_racks c =
    (let size = c.loop-r.invariant.size in
    let end = c.loop-r.auto.r-end in
    let most = c.racks-r-end.ensures.most in
    omega arith)

pub from_lists-requires-clause-racks : goal.from_lists-requires-clause-racks
from_lists-requires-clause-racks c = λ k d l.
    (let known = c.loop-r.invariant.known k d l in
    let count = c.centres.ensures.count in
    omega arith)
