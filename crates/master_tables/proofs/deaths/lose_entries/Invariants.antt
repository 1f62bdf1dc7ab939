use Rattle.std.proofs.Common.{◌≡◌, take, drop, ◌++◌, map}
use Rattle.master_tables.specs.Ends.{ends}
use Rattle.master_tables.specs.Entries.{entry_after_death}
use Rattle.master_tables.proofs.deaths.lose_entries.Given as goal

abbrev pub invariant-loop-entry : goal.invariant-loop-entry
invariant-loop-entry l =
    let change = entry_after_death l.stays (ends l.ending) in
    take l.entry-index l.entry-items ++ map change (drop l.entry-index l.entry-items)
    ≡ map change l.fn.entries.items
