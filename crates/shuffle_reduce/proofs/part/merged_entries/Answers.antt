use Rattle.shuffle_reduce.proofs.MergeLemmas.{pairs_from_entries, part_from_entries}
use Rattle.shuffle_reduce.proofs.part.merged_entries.Goals as goal

-- what was gathered is the runs'
pub returns-clause-pairs : goal.returns-clause-pairs
returns-clause-pairs g c =
    pairs_from_entries c.in_ok-table.table c.in_ok-into_entries.field-0.items c.in_ok-table.ensures
    c.in_ok-into_entries.ensures.entries c.in_ok-into_entries.ensures.same

-- and so the part's
pub returns-clause-exact : goal.returns-clause-exact
returns-clause-exact g c =
    part_from_entries c.in_ok-table.table c.in_ok-into_entries.field-0.items c.in_ok-table.ensures
    c.requires c.in_ok-into_entries.ensures.entries c.in_ok-into_entries.ensures.same
