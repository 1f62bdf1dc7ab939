use Rattle.std.proofs.Common.{◌≡◌, ◌≤◌, ◌*◌, length, map, take}
use Rattle.std.specs.Prelude.{flat_map}
use Rattle.master_state.specs.Tests.{attempts_of}
use Rattle.master_tables.specs.Entries.{shown_as}
use Rattle.master_tables.proofs.counts.running_maps.Given as goal

abbrev pub invariant-loop-entry : goal.invariant-loop-entry
invariant-loop-entry l = record {
  count : l.count ≡ length (flat_map attempts_of (take l.entry-index (map shown_as l.entries)));
  few : l.count ≤ 2 * l.entry-index;
}
