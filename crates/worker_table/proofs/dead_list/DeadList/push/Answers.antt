use Rattle.std.proofs.Common.{ap, sym}
use Rattle.node_ids.proofs.Rows.{rises-push}
use Rattle.worker_table.specs.Deaths.{DeadValue}
use Rattle.worker_table.proofs.dead_list.DeadList.push.Goals as goal

pub invariant_of-self : goal.invariant_of-self
invariant_of-self c =
    let same = ap (λ (v : DeadValue). v.items) c.self.view_is in
    rw c.push_reserved.ensures.items
    (rises-push c.self.inside.workers.items c.args.worker c.self.invariant
    (λ k less. rw same (c.requires.rising k 0 (rw (sym same) less))))
