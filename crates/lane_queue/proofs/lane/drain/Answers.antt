use Rattle.std.proofs.Common.{length, ap, arith}
use Rattle.std.proofs.lemmas.Grind.{common_steps}
use Rattle.crossbeam_queue.specs.Passes.{view}
use Rattle.lane_queue.specs.declared.view.View.{View}
use Rattle.lane_queue.proofs.Keeps.{takes, totals}
use Rattle.lane_queue.proofs.Gathers.{ends_full}
use Rattle.lane_queue.proofs.lane.drain.Goals as goal

pub len_as-count-requires-clause-rule : goal.len_as-count-requires-clause-rule
len_as-count-requires-clause-rule g c = totals _ _

pub pop_as-requires-clause-rule : goal.pop_as-requires-clause-rule
pop_as-requires-clause-rule g c = (
  takes _ _ (omega (arith, c.requires.pass.1, ap (λ (v : View). length v.depths) c.loop.invariant.1)),
  totals _ _,
)

pub learn_as-requires-clause-rule : goal.learn_as-requires-clause-rule
learn_as-requires-clause-rule g c = totals _ _

pub returns-clause-totals : goal.returns-clause-totals
returns-clause-totals g c =
    let i = c.loop.invariant in
    ends_full (view c.args.token) (view c.loop.token) c.loop.left.items c.len_as-count.result i.1
    (omega (
      arith,
      i.3,
      c.loop.left.ok.0,
      c.loop.auto.counter-end,
    )) c.len_as-count.ensures.rule.1 c.learn_as.ensures.rule

pub returns-in-None-clause-totals : goal.returns-in-None-clause-totals
returns-in-None-clause-totals g c = grind (arith, common_steps)

pub loop-preserved : goal.loop-preserved
loop-preserved g c = grind (arith, common_steps)
