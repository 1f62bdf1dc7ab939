use Rattle.std.proofs.Common.{◌≡◌, drop, map}
use Rattle.explanations.specs.Table.{row_named, row_of}
use Rattle.explanations.proofs.table.found.Given as goal

abbrev pub invariant-loop-entry : goal.invariant-loop-entry
invariant-loop-entry l = row_named (map row_of l.entries) l.kind l.name
    ≡ row_named (map row_of (drop l.entry-index l.entries)) l.kind l.name
