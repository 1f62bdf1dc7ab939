-- Where the first row stands that is not fit.
use Rattle.std.specs.Prelude.{ℕ, ◌<◌, ◌≤◌, List, Option, Some, None, All, length}
use Rattle.std.specs.List.{AllWithin, HoldsAt}
use Rattle.wave_problem.specs.declared.TheConstants.{MAX_SLOTS}
use Rattle.wave_problem.specs.Wave.{IsHeldWell}
use Rattle.wave_arrays.specs.declared.array_rows.WaveRows.{WaveRows}
use Rattle.wave_arrays.specs.declared.array_rows.WorkerRow.{WorkerRow}
use Rattle.wave_arrays.specs.declared.array_rows.SplitRow.{SplitRow}
use Rattle.wave_arrays.specs.Rows.{IsSplitFit, split_of}

-- the first of these rows that is not fit stands there; or each is
abbrev pub IsFirstUnfit : {Row : Type 0} → (Row → Type 0) → List Row → Option ℕ → Type 0
IsFirstUnfit IsFit rows None = All IsFit rows
IsFirstUnfit IsFit rows (Some place) =
    (place < length rows) × HoldsAt (λ row. IsFit row → ⊥) rows place × AllWithin IsFit rows 0 place

-- a worker stands in one of so many racks, with few enough slots
abbrev pub IsWorkerFit : ℕ → WorkerRow → Type 0
IsWorkerFit racks row = (row.rack < racks) × (row.free ≤ MAX_SLOTS)

-- a split is fit, and its holders are workers, none of them twice
abbrev pub HasFitHolders : WaveRows → SplitRow → Type 0
HasFitHolders rows row = IsSplitFit (length rows.holders.now) row
    × IsHeldWell (length rows.workers.now) (split_of rows.holders.now row)
