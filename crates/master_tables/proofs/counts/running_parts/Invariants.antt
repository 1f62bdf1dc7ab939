use Rattle.std.proofs.Common.{◌≡◌, ◌≤◌, length, take}
use Rattle.std.specs.Prelude.{flat_map}
use Rattle.master_state.specs.Tests.{part_attempts}
use Rattle.master_tables.proofs.counts.running_parts.Given as goal

abbrev pub invariant-loop-part : goal.invariant-loop-part
invariant-loop-part l = record {
  count : l.count ≡ length (flat_map part_attempts (take l.part-index l.parts));
  few : l.count ≤ l.part-index;
}
