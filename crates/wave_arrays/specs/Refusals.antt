-- What is so of rows that are refused.
use Rattle.wave_arrays.specs.declared.array_rows.WaveRows.{WaveRows}
use Rattle.wave_arrays.specs.Rows.{AreBarsFit, AreHoldersFit, AreRacksFit, AreSplitsFit, AreWorkersFit}
use Rattle.wave_arrays.specs.declared.fit.RowsError.{RowsError}
use Rattle.wave_arrays.specs.declared.fit.RowsError.TheVariants.{Racks, Workers, Splits, Bars, Holders}

-- rows of this kind are not fit, and those of the kinds before it are
abbrev pub IsRefusal : WaveRows → RowsError → Type 0
IsRefusal rows Racks = AreRacksFit rows → ⊥
IsRefusal rows Workers = AreRacksFit rows × (AreWorkersFit rows → ⊥)
IsRefusal rows Splits = AreRacksFit rows × AreWorkersFit rows × (AreSplitsFit rows → ⊥)
IsRefusal rows Bars = AreRacksFit rows × AreWorkersFit rows × AreSplitsFit rows × (AreBarsFit rows → ⊥)
IsRefusal rows Holders =
    AreRacksFit rows × AreWorkersFit rows × AreSplitsFit rows × AreBarsFit rows × (AreHoldersFit rows → ⊥)
