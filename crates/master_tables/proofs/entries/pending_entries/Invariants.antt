use Rattle.std.proofs.Common.{◌≡◌, take, map}
use Rattle.master_tables.specs.declared.entries.SplitEntry.TheVariants.{Pending}
use Rattle.master_tables.proofs.entries.pending_entries.Given as goal

abbrev pub invariant-loop-line : goal.invariant-loop-line
invariant-loop-line l = l.entries.items ≡ map (λ _. Pending) (take l._line-index l.splits)
