-- What a call answers where it writes nothing, and what is so then.
use Rattle.std.specs.Prelude.{ℕ, ◌≡◌, ◌<◌, ◌≤◌, List, length}
use Rattle.direct_network.specs.declared.network.TheConstants.{MAX_SPLITS, MAX_WORKERS}
use Rattle.wave_arrays.specs.declared.fit.RowsError.TheVariants.{Racks, Workers, Splits, Bars, Holders}
use Rattle.wave_arrays.specs.declared.array_rows.WaveRows.{WaveRows}
use Rattle.wave_arrays.specs.Claims.{AreStartsFit}
use Rattle.wave_arrays.specs.declared.place_rows.PlaceRows.{PlaceRows}
use Rattle.wave_arrays.specs.PlacePrices.{ArePlacesFit}
use Rattle.wave_arrays.specs.Refusals.{IsRefusal}
use Rattle.wave_arrays.specs.Rows.{AreFit}
use Rattle.mrjob_c.specs.declared.status.Fault.{Fault}
use Rattle.mrjob_c.specs.declared.status.Fault.TheVariants.{Rows, Length, Starts, Network, Places, Memory}

abbrev pub status_of : Fault → ℕ
status_of (Rows Racks) = 2
status_of (Rows Workers) = 3
status_of (Rows Splits) = 4
status_of (Rows Bars) = 5
status_of (Rows Holders) = 6
status_of Length = 7
status_of Starts = 8
status_of Network = 9
status_of Memory = 10
status_of Places = 11

-- the starts and the prices of splits are as many as the splits, the prices of workers as the workers
pub record AreSized (rows : WaveRows) (starts splits workers : ℕ) : Type 0 where
  pub starts_fit : starts ≡ length rows.splits.now
  pub splits_fit : splits ≡ length rows.splits.now
  pub workers_fit : workers ≡ length rows.workers.now

-- the splits and the workers are few enough for the direct network
pub record IsSmall (rows : WaveRows) : Type 0 where
  pub few_splits : length rows.splits.now ≤ MAX_SPLITS
  pub few_workers : length rows.workers.now ≤ MAX_WORKERS

-- there is such a network, and the direct one, which is 1, only for few splits and workers
abbrev pub IsNetworkFor : WaveRows → ℕ → Type 0
IsNetworkFor rows network = (network < 2) × (network ≡ 1 → IsSmall rows)

-- all that a plan is given is in order
pub record IsPlanFit (rows : WaveRows) (network starts splits workers : ℕ) : Type 0 where
  pub rows_fit : AreFit rows
  pub sized : AreSized rows starts splits workers
  pub known : IsNetworkFor rows network

-- all that a check is given is in order
pub record IsCheckFit (rows : WaveRows) (starts : List ℕ) (splits workers : ℕ) : Type 0 where
  pub rows_fit : AreFit rows
  pub sized : AreSized rows (length starts) splits workers
  pub known : AreStartsFit (length rows.workers.now) starts

-- what a plan is given has this fault and none before it; memory is wanting only where it has none
abbrev pub IsFaultOfPlan : WaveRows → ℕ → ℕ → ℕ → ℕ → Fault → Type 0
IsFaultOfPlan rows network starts splits workers (Rows e) = IsRefusal rows e
IsFaultOfPlan rows network starts splits workers Length =
    AreFit rows × (AreSized rows starts splits workers → ⊥)
IsFaultOfPlan rows network starts splits workers Starts = ⊥
IsFaultOfPlan rows network starts splits workers Network =
    AreFit rows × AreSized rows starts splits workers × (IsNetworkFor rows network → ⊥)
IsFaultOfPlan rows network starts splits workers Places = ⊥
IsFaultOfPlan rows network starts splits workers Memory = IsPlanFit rows network starts splits workers

-- so it is of what a check is given
abbrev pub IsFaultOfCheck : WaveRows → List ℕ → ℕ → ℕ → Fault → Type 0
IsFaultOfCheck rows starts splits workers (Rows e) = IsRefusal rows e
IsFaultOfCheck rows starts splits workers Length =
    AreFit rows × (AreSized rows (length starts) splits workers → ⊥)
IsFaultOfCheck rows starts splits workers Starts =
    AreFit rows × AreSized rows (length starts) splits workers
    × (AreStartsFit (length rows.workers.now) starts → ⊥)
IsFaultOfCheck rows starts splits workers Network = ⊥
IsFaultOfCheck rows starts splits workers Places = ⊥
IsFaultOfCheck rows starts splits workers Memory = IsCheckFit rows starts splits workers

-- the status is the number of a fault that is so
pub record TellsPlanFault (rows : WaveRows) (network starts splits workers status : ℕ) : Type 0 where
  pub fault : Fault
  pub number : status ≡ status_of fault
  pub is_so : IsFaultOfPlan rows network starts splits workers fault

pub record TellsCheckFault (rows : WaveRows) (starts : List ℕ) (splits workers status : ℕ) : Type 0 where
  pub fault : Fault
  pub number : status ≡ status_of fault
  pub is_so : IsFaultOfCheck rows starts splits workers fault

-- ---- where places have prices

-- all that a plan is given is in order
pub record IsPlacesPlanFit (rows : WaveRows) (places : PlaceRows) (starts splits workers : ℕ) : Type 0 where
  pub rows_fit : AreFit rows
  pub sized : AreSized rows starts splits workers
  pub places_fit : ArePlacesFit (length rows.workers.now) places

-- all that a check is given is in order
pub record IsPlacesCheckFit (rows : WaveRows) (places : PlaceRows) (starts : List ℕ) (splits workers : ℕ) : Type 0
  where
    pub check_fit : IsCheckFit rows starts splits workers
    pub places_fit : ArePlacesFit (length rows.workers.now) places

-- what a plan is given has this fault and none before it
abbrev pub IsFaultOfPlacesPlan : WaveRows → PlaceRows → ℕ → ℕ → ℕ → Fault → Type 0
IsFaultOfPlacesPlan rows places starts splits workers (Rows e) = IsRefusal rows e
IsFaultOfPlacesPlan rows places starts splits workers Length =
    AreFit rows × (AreSized rows starts splits workers → ⊥)
IsFaultOfPlacesPlan rows places starts splits workers Starts = ⊥
IsFaultOfPlacesPlan rows places starts splits workers Network = ⊥
IsFaultOfPlacesPlan rows places starts splits workers Places =
    AreFit rows × AreSized rows starts splits workers × (ArePlacesFit (length rows.workers.now) places → ⊥)
IsFaultOfPlacesPlan rows places starts splits workers Memory = IsPlacesPlanFit rows places starts splits workers

-- so it is of what a check is given: the faults of a check without prices of places come first
abbrev pub IsFaultOfPlacesCheck : WaveRows → PlaceRows → List ℕ → ℕ → ℕ → Fault → Type 0
IsFaultOfPlacesCheck rows places starts splits workers (Rows e) = IsRefusal rows e
IsFaultOfPlacesCheck rows places starts splits workers Length =
    IsFaultOfCheck rows starts splits workers Length
IsFaultOfPlacesCheck rows places starts splits workers Starts =
    IsFaultOfCheck rows starts splits workers Starts
IsFaultOfPlacesCheck rows places starts splits workers Network = ⊥
IsFaultOfPlacesCheck rows places starts splits workers Places =
    IsCheckFit rows starts splits workers × (ArePlacesFit (length rows.workers.now) places → ⊥)
IsFaultOfPlacesCheck rows places starts splits workers Memory = IsPlacesCheckFit rows places starts splits workers

-- the status is the number of a fault that is so
pub record TellsPlacesPlanFault (rows : WaveRows) (places : PlaceRows) (starts splits workers status : ℕ) : Type 0
  where
    pub fault : Fault
    pub number : status ≡ status_of fault
    pub is_so : IsFaultOfPlacesPlan rows places starts splits workers fault

pub record TellsPlacesCheckFault (rows : WaveRows) (places : PlaceRows) (starts : List ℕ)
    (splits workers status : ℕ) : Type 0 where
  pub fault : Fault
  pub number : status ≡ status_of fault
  pub is_so : IsFaultOfPlacesCheck rows places starts splits workers fault
