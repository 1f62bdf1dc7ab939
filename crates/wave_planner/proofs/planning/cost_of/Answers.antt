use Rattle.std.proofs.Common.{ℕ, ◌<◌, length, sym, subst, arith}
use Rattle.wave_planner.proofs.Costed.{total_next}
use Rattle.wave_planner.proofs.planning.cost_of.Goals as goal

pub cost_at-total-requires-clause-split : goal.cost_at-total-requires-clause-split
cost_at-total-requires-clause-split c =
    subst (λ (x : ℕ × ℕ). x.0 < length c.args.problem.now.splits) (sym c.pair-item.is)
    (c.requires.known c.loop-pair.pair-index c.pair-item.result c.loop-pair-test.true).0

pub cost_at-total-requires-clause-worker : goal.cost_at-total-requires-clause-worker
cost_at-total-requires-clause-worker c =
    subst (λ (x : ℕ × ℕ). x.1 < length c.args.problem.now.workers) (sym c.pair-item.is)
    (c.requires.known c.loop-pair.pair-index c.pair-item.result c.loop-pair-test.true).1

pub loop-pair-preserved : goal.loop-pair-preserved
loop-pair-preserved c =
    let l = c.loop-pair in
    let more = total_next c.args.problem.now c.args.pairs.now l.pair-index c.pair-item.result c.loop-pair-test.true
    c.pair-item.is in
    let cost = c.cost_at-total.ensures.cost in
    let most = c.cost_at-total.ensures.most in
    (omega (arith, more, cost, l.invariant.0), omega (arith, most, l.invariant.1))
