use Rattle.std.proofs.Common.{length, sym, ap, ◌∙◌, arith}
use Rattle.master_state.specs.Jobs.{Job}
use Rattle.master_core.proofs.master.Master.spare_worker.Goals as goal

pub returns-then-is_spare : goal.returns-then-is_spare
returns-then-is_spare c =
    let number = c.new-worker.ensures in
    let many = ap length (c.slots-number-end.ensures.value
    ∙ ap (λ (j : Job). j.setup.cluster.slots) c.self.view_is) in (
      omega (arith, number, many),
      sym c.is_spare.ensures ∙ c.if-is_spare.true,
      λ v below. c.loop-number.invariant v (omega (arith, number, below)),
    )
