use Rattle.std.proofs.Common.{◌≡◌, ◌≤◌, ◌++◌, List, take, length}
use Rattle.hand_ledger.specs.Hands.{Kept}
use Rattle.hand_ledger.specs.Inside.{calls_of, counts_taken, starts_taken}
use Rattle.hand_ledger.specs.Marks.{Marks}
use Rattle.hand_ledger.specs.declared.marks.TheConstants.{PLACES}
use Rattle.hand_ledger.proofs.marks.mark_all.Given as goal

abbrev pub invariant-loop-index : goal.invariant-loop-index
invariant-loop-index l = record {
  size : length l.found ≡ PLACES;
  counts : l.counts_done ≡ counts_taken (take l.index l.entries.items);
  few : l.counts_done ≤ l.index;
  starts : l.starts_done ≡ starts_taken (take l.index l.entries.items);
  marks : (before : List Kept) → Marks l.log l.first before l.fn.found →
      Marks l.log l.first (before ++ calls_of (take l.index l.entries.items) l.counts.items l.starts) l.found;
}
