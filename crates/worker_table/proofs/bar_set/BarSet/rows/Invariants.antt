use Rattle.std.proofs.Common.{◌≡◌, drop, length}
use Rattle.worker_table.proofs.Barring.{AreKnown, put_in}
use Rattle.worker_table.proofs.bar_set.BarSet.rows.Given as goal

-- the rows so far, with each pair that is still to come put in, are the rows of all pairs
abbrev pub invariant-loop-pair : goal.invariant-loop-pair
invariant-loop-pair l = record {
  rest : put_in l.rows (drop l.pair-index l.pair-items) ≡ l.fn.self.rows;
  known : AreKnown (length l.rows) l.pair-items;
}
