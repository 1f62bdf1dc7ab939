use Rattle.worker_table.proofs.WorkerTable.new.Goals as goal

pub returns : goal.returns
returns c = λ k. record {
  limit = c.args.silence;
  each = c.in_ok-fresh_workers.ensures.each k;
  barred = c.in_ok-new.ensures k;
}
