-- The fields of a set of barred pairs, as callers see them, and what they keep.
use Rattle.std.specs.Prelude.{◌<◌, ◌≤◌, All}
use Rattle.std.specs.HashSet.{spare}
use Rattle.worker_table.specs.Bars.{Bars, in_rows}
use Rattle.worker_table.specs.declared.bar_set.BarSet.TheInside.{Inside}

abbrev pub bars_of : Inside → Bars
bars_of b = record { rows = in_rows b.splits b.pairs.keys; room = b.room }

-- no bar is of a split past the last, and the room is there
pub record IsRoomy (b : Inside) : Type 0 where
  pub known : All (λ pair. pair.0 < b.splits) b.pairs.keys
  pub room : b.room ≤ spare b.pairs
