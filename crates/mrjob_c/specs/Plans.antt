-- What a plan of a caller's arrays is.
use Rattle.std.specs.Prelude.{ℕ, ◌==◌, List, if◌then◌else◌, map}
use Rattle.flow_network.specs.declared.kinds.NetworkKind.{NetworkKind}
use Rattle.flow_network.specs.declared.kinds.NetworkKind.TheVariants.{Direct, Racks}
use Rattle.wave_planner.specs.Planned.{IsMadeOver}
use Rattle.wave_arrays.specs.declared.array_rows.WaveRows.{WaveRows}
use Rattle.wave_arrays.specs.Claims.{prices_in, start_in}
use Rattle.wave_arrays.specs.Rows.{wave_in}
use Rattle.mrjob_c.specs.Checks.{claim_in, IsBestBy}

-- the kind of network that a number says: 0 the one with racks, 1 the direct one
abbrev pub kind_in : ℕ → NetworkKind
kind_in network = if network == 0 then Racks else Direct

-- the prices certify the starts in the wave that the rows make, so that they are best, with this count and
-- cost; and starts and prices were made over the network that the number says
pub record IsPlanned (rows : WaveRows) (network : ℕ) (starts splits workers : List ℕ) (many far : ℕ) : Type 0
  where
    pub best : IsBestBy (claim_in rows starts splits workers) many far
    pub over : IsMadeOver (kind_in network) (wave_in rows) (map start_in starts) (prices_in splits workers)
