use Rattle.std.proofs.Common.{ℕ, ◌≤◌, ◌<◌, get_or}
use Rattle.hand_ledger.specs.declared.entries.Entry.{Entry}
use Rattle.hand_ledger.proofs.entries.Entries.greatest_place.Given as goal

abbrev pub invariant-loop-index : goal.invariant-loop-index
invariant-loop-index l = record {
  most : l.greatest ≤ 1048577;
  least : l.least ≤ l.greatest;
  entries : (k : ℕ) (d : Entry) → k < l.index → (get_or l.self.items k d).place ≤ l.greatest;
}
