use Rattle.std.proofs.Common.{◌≡◌, ◌≤◌, map, take, not}
use Rattle.std.specs.Prelude.{count_by}
use Rattle.master_state.specs.Tests.{is_done}
use Rattle.master_tables.specs.Entries.{shown_as}
use Rattle.master_tables.proofs.counts.open_splits.Given as goal

abbrev pub invariant-loop-entry : goal.invariant-loop-entry
invariant-loop-entry l = record {
  count : l.count ≡ count_by (λ split. not (is_done split)) (take l.entry-index (map shown_as l.entries));
  few : l.count ≤ l.entry-index;
}
