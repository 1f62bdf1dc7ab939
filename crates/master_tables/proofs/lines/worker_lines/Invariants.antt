use Rattle.std.proofs.Common.{◌≡◌, length, take, map}
use Rattle.std.specs.Prelude.{vec_capacity, vec_len}
use Rattle.master_state.specs.Steps.{worker_line}
use Rattle.master_tables.proofs.lines.worker_lines.Given as goal

abbrev pub invariant-loop-worker : goal.invariant-loop-worker
invariant-loop-worker l = record {
  items : l.lines.items ≡ map worker_line (take l.worker-index l.workers);
  len : vec_len l.lines ≡ l.worker-index;
  room : vec_capacity l.lines ≡ length l.workers;
}
