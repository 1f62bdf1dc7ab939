-- Where the rows are not fit that a status is of.
use Rattle.std.specs.Prelude.{ℕ, ◌≡◌, ◌<◌, ◌⊎◌, List, Option, None, length}
use Rattle.wave_arrays.specs.Claims.{IsStartFit}
use Rattle.wave_arrays.specs.Places.{HasFitHolders, IsFirstUnfit, IsWorkerFit}
use Rattle.wave_arrays.specs.Rows.{IsPairKnown, IsSplitFit, pairs_in}
use Rattle.wave_arrays.specs.declared.array_rows.WaveRows.{WaveRows}

-- a status that is of no rows
abbrev pub IsOther : ℕ → Type 0
IsOther status = (status < 2) ⊎ ((status ≡ 7) ⊎ (8 < status))

-- the place is that of the first row which is not fit, of the kind that the status is of; a status of no rows
-- has none
pub record IsUnfitAt (rows : WaveRows) (starts : List ℕ) (status : ℕ) (place : Option ℕ) : Type 0 where
  pub racks : status ≡ 2 → IsFirstUnfit (λ centre. centre < rows.centres) rows.centre_of.now place
  pub workers : status ≡ 3 → IsFirstUnfit (IsWorkerFit (length rows.centre_of.now)) rows.workers.now place
  pub splits : status ≡ 4 → IsFirstUnfit (IsSplitFit (length rows.holders.now)) rows.splits.now place
  pub pairs : status ≡ 5
      → IsFirstUnfit (IsPairKnown (length rows.splits.now) (length rows.workers.now)) (pairs_in rows.barred)
      place
  pub holders : status ≡ 6 → IsFirstUnfit (HasFitHolders rows) rows.splits.now place
  pub starts_fit : status ≡ 8 → IsFirstUnfit (IsStartFit (length rows.workers.now)) starts place
  pub others : IsOther status → place ≡ None
