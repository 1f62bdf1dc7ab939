use Rattle.std.proofs.Common.{◌≡◌, take, drop, ◌++◌, map}
use Rattle.master_state.specs.Changes.{part_without}
use Rattle.master_tables.specs.Ends.{ends}
use Rattle.master_tables.proofs.deaths.lose_parts.Given as goal

abbrev pub invariant-loop-part : goal.invariant-loop-part
invariant-loop-part l =
    let change = part_without (ends l.ending) in
    take l.part-index l.part-items ++ map change (drop l.part-index l.part-items)
    ≡ map change l.fn.parts.items
