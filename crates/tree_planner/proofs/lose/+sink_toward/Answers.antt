use Rattle.std.proofs.Common.{ap, sym, subst, arith}
use Rattle.tree_flow.specs.Settled.{HasComeDown}
use Rattle.tree_planner.specs.View.{state_of}
use Rattle.tree_planner.proofs.Handed.{height, height_less}
use Rattle.tree_planner.proofs.Pulled.{come_below, next_flows}
use Rattle.tree_planner.proofs.lose.+sink_toward.Goals as goal

pub sink_to-requires-clause-some : goal.sink_to-requires-clause-some
sink_to-requires-clause-some t c =
    let wave = c.args.problem.now in
    let below = c.child_toward-below.result in
    let facts = c.child_toward-below.ensures in
    let state = state_of c.args.tables.now in
    next_flows wave.tree state below c.args.worker facts.hangs facts.under
    (subst (λ v. HasComeDown wave.tree state v c.args.worker) (sym facts.above) c.requires.down)

pub sink_toward-requires : goal.sink_toward-requires
sink_toward-requires t c =
    let wave = c.args.problem.now in
    let below = c.child_toward-below.result in
    let facts = c.child_toward-below.ensures in
    let state = state_of c.args.tables.now in
    let less = height_less wave.tree below facts.hangs in
    let same = ap height facts.above in
    let at = c.decreases in (
      omega arith,
      (
        c.requires.fixed,
        (
          facts.known,
          (
            c.requires.worker,
            (
              c.sink_to.ensures.standing,
              come_below wave.tree state (state_of c.sink_to.new.tables) below c.args.worker facts.hangs
                  facts.under
                  (subst (λ v. HasComeDown wave.tree state v c.args.worker) (sym facts.above) c.requires.down)
                  c.sink_to.ensures.flows,
            ),
          ),
        ),
      ),
    )
