use Rattle.std.proofs.Common.{◌∙◌, arith}
use Rattle.shortest_paths.proofs.Following.{passes_on, further_on, back_on, enters_on, leaves_on, source_read}
use Rattle.shortest_paths.proofs.Following.{matched_read, after_read}
use Rattle.shortest_paths.proofs.residual_arcs.ResidualArcs.follow_arc.Goals as goal

pub returns-then-not-index-clause-following : goal.returns-then-not-index-clause-following
returns-then-not-index-clause-following c = grind (arith, passes_on, source_read)

pub returns-then-flow-eq1-clause-following : goal.returns-then-flow-eq1-clause-following
returns-then-flow-eq1-clause-following c = grind (arith, matched_read, after_read, enters_on, source_read)

pub returns-then-flow-eq0-clause-following : goal.returns-then-flow-eq0-clause-following
returns-then-flow-eq0-clause-following c = grind (arith, matched_read, after_read, leaves_on)

pub returns-else-flow-eq1-clause-following : goal.returns-else-flow-eq1-clause-following
returns-else-flow-eq1-clause-following c = rw c.in-Forward.is (λ arcs last rest inside ends flow t.
    further_on arcs last rest c.args.self.now c.in-Forward.k inside t (λ e. c.if-flow-eq1.false (flow ∙ e)))

pub returns-else-flow-eq0-clause-following : goal.returns-else-flow-eq0-clause-following
returns-else-flow-eq0-clause-following c = rw c.in-Reverse.is (λ arcs last rest inside ends flow t.
    back_on arcs last rest c.args.self.now c.in-Reverse.k inside t (λ e. c.if-flow-eq0.false (flow ∙ e)))
