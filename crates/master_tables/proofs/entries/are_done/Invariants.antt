use Rattle.std.proofs.Common.{◌≡◌, take, map, true}
use Rattle.std.specs.List.{list_all}
use Rattle.master_state.specs.Tests.{is_done}
use Rattle.master_tables.specs.Entries.{shown_as}
use Rattle.master_tables.proofs.entries.are_done.Given as goal

abbrev pub invariant-loop-entry : goal.invariant-loop-entry
invariant-loop-entry l = list_all is_done (take l.entry-index (map shown_as l.entries)) ≡ true
