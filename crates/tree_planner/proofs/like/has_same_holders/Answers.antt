use Rattle.std.proofs.Common.{◌∙◌, ap, sym, arith}
use Rattle.wave_problem.specs.Wave.{live_among}
use Rattle.tree_planner.proofs.Alike.{live_alike}
use Rattle.tree_planner.proofs.like.has_same_holders.Goals as goal

pub returns : goal.returns
returns c = λ is.
    (ap (live_among c.args.other.now.workers) (sym c.holders-after.ensures.holders)
    ∙ live_alike c.args.one.now.workers c.args.other.now.workers c.holders-before.result.now
    c.holders-after.result.now (omega arith) (λ i l. c.loop-k.invariant.holders i (omega arith))
    (λ i l. c.loop-k.invariant.live i (omega arith))
    ∙ ap (live_among c.args.one.now.workers) c.holders-before.ensures.holders)
