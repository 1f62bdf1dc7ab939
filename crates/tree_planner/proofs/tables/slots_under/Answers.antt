use Rattle.std.proofs.Common.{◌≡◌, ℕ, cond, length, ap, ◌∙◌, arith}
use Rattle.wave_problem.specs.Sums.{sum_below}
use Rattle.tree_flow.specs.declared.nodes.TreeNode.TheVariants.{Worker}
use Rattle.tree_flow.specs.Nodes.{is_under}
use Rattle.tree_flow.specs.State.{slots_of}
use Rattle.tree_planner.proofs.Added.{cond-le, next_sum, over_sized}
use Rattle.tree_planner.proofs.tables.slots_under.Goals as goal

pub loop-w-preserved : goal.loop-w-preserved
loop-w-preserved c =
    let wave = c.args.problem.now in
    let before = c.loop-w.invariant in
    record {
      over = over_sized wave.tree _ _ before.over c.add_above.ensures.size;
      most = λ v.
          (let added = c.add_above.ensures.added v in
          let most = before.most v in
          let few = c.slots_of-more.ensures.most in
          let some = cond-le (is_under wave.tree (Worker c.new-worker.result) v) c.slots_of-more.result in
          omega arith);
      sums = λ v.
          (let added = c.add_above.ensures.added v in
          let sums = before.sums v in
          let more = c.slots_of-more.ensures.slots in
          let next = next_sum c.loop-w.w (λ x. cond (is_under wave.tree (Worker x) v) (slots_of wave x) 0) in
          let same = ap (λ (n : ℕ). cond (is_under wave.tree (Worker c.new-worker.result) v) n 0) more in
          let is = ap (λ (x : ℕ). cond (is_under wave.tree (Worker x) v) (slots_of wave x) 0) c.new-worker.ensures in
          omega arith);
    }

pub returns-clause-sums : goal.returns-clause-sums
returns-clause-sums c = λ v.
    (let wave = c.args.problem.now in
    let all : c.loop-w.w ≡ length wave.workers = omega arith in
    c.loop-w.invariant.sums v ∙ ap (λ (n : ℕ). sum_below n (λ x. cond (is_under wave.tree (Worker x) v)
    (slots_of wave x) 0)) all)
