use Rattle.std.proofs.Common.{◌≡◌, ◌+◌, ◌<◌, ◌↔◌, ℕ, true, false, cond, subst, sym, get_or, length, arith}
use Rattle.std.proofs.lemmas.List.{get_or_read}
use Rattle.rack_tree.specs.Tree.{Tree}
use Rattle.tree_flow.specs.declared.nodes.TreeNode.TheVariants.{Worker}
use Rattle.tree_flow.specs.Nodes.{is_under}
use Rattle.tree_flow.specs.Table.{at_or}
use Rattle.tree_planner.proofs.Barred.{bar_iff, mark_next, skip_next, AreMarked, IsBarAt}
use Rattle.tree_planner.proofs.split_ends.table_of_bars.Goals as goal
use Rattle.tree_planner.proofs.split_ends.table_of_bars.Goals.{then-index-workers, else-index-workers}

pub loop-worker-preserved : goal.loop-worker-preserved
loop-worker-preserved c =
    let wave = c.args.problem.now in
    let row = c.bars-workers.result.now in
    let n = c.loop-worker.worker-index in
    let old = c.loop-worker.bars in
    let worker = c.worker-item.result in
    let here : worker ≡ get_or row n 0 = get_or_read row n worker c.loop-worker-test.true c.worker-item.is 0 in
    let count = c.workers.ensures.count in
    let number = c.index.ensures.value in
    elim c.if-index-workers.branch [
      | then-index-workers w ↦
          (let new = w.bar_above.new.bars in
          let known : worker < length wave.workers = (let test = w.if-index-workers.true in omega arith) in
          subst (λ bars. AreMarked wave row (n + 1) bars) (sym w.bars-is)
          (mark_next wave row n old c.loop-worker.invariant new
          (subst (λ (x : ℕ). x < length wave.workers) here known) w.bar_above.ensures.size
          (λ v.
          let marked : Tree → ℕ → Type 0 =
          (λ t x. at_or new false v ≡ cond (is_under t (Worker x) v) true (at_or old false v)) in
          subst (λ (x : ℕ). marked wave.tree x) here (subst (λ (t : Tree). marked t worker)
          w.tree-then-index-workers.ensures.tree (w.bar_above.ensures.barred v)))))
      | else-index-workers w ↦
          (let past = w.if-index-workers.false in
          subst (λ bars. AreMarked wave row (n + 1) bars) (sym w.bars-is)
          (skip_next wave row n old c.loop-worker.invariant (λ known. absurd (omega (arith, here, known)))))
    ]

pub returns : goal.returns
returns c =
    let wave = c.args.problem.now in
    let row = c.bars-workers.result.now in
    let most = c.loop-worker.auto.worker-index-end in
    let past = c.loop-worker-test.false in
    let all : c.loop-worker.worker-index ≡ length row = omega arith in
    record {
      over = c.loop-worker.invariant.over;
      bars = λ v.
          (let each = subst (λ (n : ℕ). (at_or c.loop-worker.bars false v ≡ true)
          ↔ ((k : ℕ) × (k < n) × IsBarAt wave v row k)) all (c.loop-worker.invariant.each v) in
          let iff = bar_iff wave c.args.split row c.bars-workers.ensures.row v in
          (λ is. iff.0 (each.0 is), λ b. each.1 (iff.1 b)));
    }
