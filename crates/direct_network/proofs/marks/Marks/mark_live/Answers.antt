use Rattle.std.proofs.Common.{arith}
use Rattle.std.proofs.lemmas.Grind.{common_steps}
use Rattle.direct_network.proofs.marks.Marks.mark_live.Goals as goal
use Rattle.direct_network.proofs.marks.Marks.mark_live.Goals.{then-is_live, else-is_live}

pub loop-holder-preserved : goal.loop-holder-preserved
loop-holder-preserved c = elim c.if-is_live.branch [
  | then-is_live w ↦
      let more = w.mark_worker.ensures.shown _ c.loop-holder.invariant.1 in
      rw w.self-is (w.mark_worker.ensures.marks, grind (arith, common_steps, more))
  | else-is_live w ↦ rw w.self-is (c.loop-holder.invariant.0, grind (arith, common_steps))
]
