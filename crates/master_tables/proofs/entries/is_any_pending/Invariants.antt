use Rattle.std.proofs.Common.{◌≡◌, drop, map}
use Rattle.std.specs.List.{list_any}
use Rattle.master_state.specs.Tests.{is_pending}
use Rattle.master_tables.specs.Entries.{shown_as}
use Rattle.master_tables.proofs.entries.is_any_pending.Given as goal

-- the answer for the whole list is that for the elements still to come
abbrev pub invariant-loop-entry : goal.invariant-loop-entry
invariant-loop-entry l =
    list_any is_pending (map shown_as (drop l.entry-index l.entries))
    ≡ list_any is_pending (map shown_as l.entries)
