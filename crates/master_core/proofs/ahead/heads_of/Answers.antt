use Rattle.std.proofs.Common.{◌≡◌, ◌<◌, ◌+◌, ◌∙◌, ◌++◌, ◌∷◌, [], List, Option, ap, arith, length, map, subst, sym, ℕ}
use Rattle.std.specs.Prelude.{All, IfSome}
use Rattle.std.proofs.lemmas.Grind.{common_steps}
use Rattle.wave_problem.specs.Assignment.{start_of}
use Rattle.master_state.specs.Steps.{AreHeads, worker_line}
use Rattle.master_core.proofs.Heads.{AreHeadsSoFar, all_heads, heads_more, known_more}
use Rattle.master_core.proofs.ahead.heads_of.Goals as goal

pub loop-s-preserved : goal.loop-s-preserved
loop-s-preserved c =
    let lines = map worker_line c.args.workers.now in
    let plan = c.args.plan.now.starts in
    let i = c.loop-s.s in
    let left = c.loop-s.left.items in
    let new = c.take_head.new.left.items in
    let starts = c.loop-s.starts.items in
    let before = c.loop-s.invariant in
    let start = c.of-start.result in
    let o = c.take_head.result in
    let inside : i < length plan = omega (arith, c.loop-s-test.true, c.splits-s-end.ensures.count) in
    let is : start ≡ start_of plan i = c.of-start.ensures.start ∙ ap (start_of plan) c.new.ensures in
    record {
      heads = subst (λ (ss : List (Option ℕ)). AreHeadsSoFar lines new plan ss (i + 1))
          (sym c.push_reserved.ensures.items)
          (heads_more lines left new plan starts i inside before.heads start o is c.take_head.ensures.taken
          c.take_head.ensures.none);
      known = subst (λ (ss : List (Option ℕ)). All (λ s. IfSome s (λ w. w < c.args.plan.now.workers)) ss)
          (sym c.push_reserved.ensures.items)
          (known_more lines left new plan starts i inside before.heads c.args.plan.now.workers start o
          c.of-start.ensures.known c.take_head.ensures.taken before.known);
      room = grind (arith, common_steps);
    }

pub returns-clause-heads : goal.returns-clause-heads
returns-clause-heads c =
    let lines = map worker_line c.args.workers.now in
    let plan = c.args.plan.now.starts in
    rw c.from_starts.ensures.starts
    (all_heads lines c.loop-s.left.items plan c.loop-s.starts.items c.loop-s.s
    (omega (arith, c.loop-s-test.false)) c.loop-s.invariant.heads)
