-- The barred pairs of a split and a worker.
use Rattle.std.specs.Prelude.{ℕ, ◌-◌, List}
use Rattle.std.specs.List.{fold}
use Rattle.node_ids.specs.Sets.{no_pairs, with_pair}

pub record Bars : Type 0 where
  pub rows : List (List ℕ)  -- for each split, the workers that are barred from it, rising
  pub room : ℕ  -- for how many bars more there is room

-- of so many splits
abbrev pub no_bars : ℕ → ℕ → Bars
no_bars splits room = record { rows = no_pairs splits; room = room }

abbrev pub bars_with : Bars → ℕ → ℕ → Bars
bars_with b split w = record { rows = with_pair b.rows split w; room = b.room - 1 }

-- the pairs, in rows
abbrev pub in_rows : ℕ → List (ℕ × ℕ) → List (List ℕ)
in_rows splits pairs = fold (λ rows pair. with_pair rows pair.0 pair.1) (no_pairs splits) pairs
