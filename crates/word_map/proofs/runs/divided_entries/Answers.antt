use Rattle.word_map.proofs.DivideLemmas.{entries_of_parts}
use Rattle.word_map.proofs.runs.divided_entries.Goals as goal

-- what was found, put in order and divided is the run of each part
pub returns : goal.returns
returns g c =
    entries_of_parts c.in_ok-table.table c.in_ok-into_entries.field-0.items c.in_ok-divide.field-0.items
    c.in_ok-lower.ensures (rw c.as_slice.ensures.value at c.in_ok-table.ensures)
    c.in_ok-into_entries.ensures.entries c.in_ok-into_entries.ensures.same c.in_ok-divide.ensures
