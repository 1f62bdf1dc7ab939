use Rattle.std.proofs.Common.{arith, ap, ◌∙◌, length}
use Rattle.lane_queue.specs.declared.view.View.{View}
use Rattle.lane_queue.proofs.Keeps.{puts, totals}
use Rattle.lane_queue.proofs.Gathers.{knows}
use Rattle.lane_queue.proofs.lane.Lane.put.Goals as goal
use Rattle.lane_queue.proofs.lane.Lane.put.Goals.{in-Ok, in-Err}

pub push_as-requires-clause-rule : goal.push_as-requires-clause-rule
push_as-requires-clause-rule g c =
    (puts _ _ _ _ (omega (arith, ap (λ (v : View). length v.depths) c.pass.invariant.1)), totals _ _)

pub returns-clause-full : goal.returns-clause-full
returns-clause-full g c =
    let is = c.pass.view_is in
    elim c.match-push_as.branch [
      | in-Ok w ↦ rw w.result-is tt
      | in-Err w ↦
          let told = w.in-Err.ensures.rule.2 in
          let known = knows _ c.args.pass.now told.0 c.pass.invariant.1 (ap (λ p. p.puts) is)
          (ap (λ p. p.takes) is) (ap (λ p. p.depth) is) told.2 in
          rw w.result-is (told.0, told.1 ∙ ap (λ l. l.capacity) c.self.view_is, known)
    ]
