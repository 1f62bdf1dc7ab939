use Rattle.std.proofs.Common.{◌≡◌, ◌≤◌, take, not}
use Rattle.std.specs.Prelude.{count_by}
use Rattle.master_state.specs.Tests.{part_is_done}
use Rattle.master_tables.proofs.counts.open_parts.Given as goal

abbrev pub invariant-loop-part : goal.invariant-loop-part
invariant-loop-part l = record {
  count : l.count ≡ count_by (λ part. not (part_is_done part)) (take l.part-index l.parts);
  few : l.count ≤ l.part-index;
}
