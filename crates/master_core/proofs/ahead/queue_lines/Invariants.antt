use Rattle.std.proofs.Common.{◌≡◌, length, take, map}
use Rattle.std.specs.Prelude.{vec_capacity, vec_len}
use Rattle.master_state.specs.Steps.{queue_lines, worker_line}
use Rattle.master_core.proofs.ahead.queue_lines.Given as goal

abbrev pub invariant-loop-i : goal.invariant-loop-i
invariant-loop-i l = record {
  items : l.lines.items ≡ take l.i (queue_lines l.asked (map worker_line l.workers));
  len : vec_len l.lines ≡ l.i;
  room : vec_capacity l.lines ≡ length l.workers;
}
