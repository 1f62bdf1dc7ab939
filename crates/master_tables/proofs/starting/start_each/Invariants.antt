use Rattle.std.proofs.Common.{◌≡◌, ◌+◌, length, drop, map}
use Rattle.std.specs.Prelude.{fold, vec_len, vec_capacity}
use Rattle.master_state.specs.States.{Setup, State}
use Rattle.master_state.specs.Changes.{split_started}
use Rattle.master_tables.specs.Entries.{shown_as}
use Rattle.master_tables.specs.Kept.{AreOfSplits}
use Rattle.master_tables.specs.Starting.{MayStart}
use Rattle.master_tables.proofs.starting.start_each.Given as goal

-- the starts so far, and the rest of them, make all; and the rest may start
abbrev pub invariant-loop-pair : goal.invariant-loop-pair
invariant-loop-pair l = record {
  allowed : MayStart l.workers (map shown_as l.splits.items) (drop l.pair-index l.pairs);
  room : vec_len l.starts + length (drop l.pair-index l.pairs) ≡ vec_len l.fn.starts + length l.pairs;
  capacity : vec_capacity l.starts ≡ vec_capacity l.fn.starts;
  rest : (s : State) → s.workers ≡ l.fn.workers → s.splits ≡ map shown_as l.fn.splits.items →
      s.starts ≡ l.fn.starts.items →
      fold (λ now pair. split_started now pair.0 pair.1)
      (record s { workers = l.workers; splits = map shown_as l.splits.items; starts = l.starts.items })
      (drop l.pair-index l.pairs)
      ≡ fold (λ now pair. split_started now pair.0 pair.1) s l.pairs;
  made : (setup : Setup) → AreOfSplits setup l.fn.splits.items → AreOfSplits setup l.splits.items;
}
