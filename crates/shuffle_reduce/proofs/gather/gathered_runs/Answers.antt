use Rattle.shuffle_reduce.proofs.MergeLemmas.{gathers_one_more_run}
use Rattle.shuffle_reduce.proofs.gather.gathered_runs.Goals as goal

-- the pairs of one more run are added
pub loop-run-preserved : goal.loop-run-preserved
loop-run-preserved g c =
    let added = rw c.entries.ensures.value at c.in_ok-add.ensures.added in
    gathers_one_more_run c.args.runs.now c.loop-run.run-index c.loop-run-test.true c.run-item.is
    c.loop-run.invariant
    (rw c.deref.ensures at c.entries.ensures.exact) (rw c.deref.ensures at added).exact
