-- Which waves a rack network is built for, and how far it is built.
use Rattle.std.specs.Prelude.{ℕ, ◌+◌, ◌-◌, ◌*◌, ◌^◌, ◌<◌, ◌≤◌, length}
use Rattle.wave_problem.specs.Wave.{Wave, reward}
use Rattle.flow_network.specs.Flow.{Flow}
use Rattle.network_prices.specs.Tables.{IsBuiltTo}
use Rattle.rack_network.specs.declared.layout.RackLayout.{RackLayout}
use Rattle.rack_network.specs.declared.network.TheConstants.{MAX_SPLITS, MAX_CENTRES, MAX_RACKS, MAX_WORKERS}
use Rattle.rack_network.specs.declared.network.TheConstants.{MAX_SLOTS}
use Rattle.rack_network.specs.Racks.{arc_of, slots, IsSized, IsWanted}

-- there are few splits, data centres, racks and workers, one arc can carry a unit for each free slot, and the
-- reward can be the cost of an arc
pub record IsSmallWave (wave : Wave) : Type 0 where
  pub few_splits : length wave.splits ≤ MAX_SPLITS
  pub few_centres : wave.tree.centres ≤ MAX_CENTRES
  pub few_racks : length wave.tree.centre_of ≤ MAX_RACKS
  pub few_workers : length wave.workers ≤ MAX_WORKERS
  pub few_slots : slots wave (length wave.workers) 3 0 ≤ MAX_SLOTS
  pub small_reward : reward wave < 2 ^ 47

-- as far as the row u and the column x, with at most so many arcs
abbrev pub IsBuiltWithin : Wave → ℕ → ℕ → ℕ → Flow RackLayout → Type 0
IsBuiltWithin wave u x limit network = IsBuiltTo (IsWanted wave) (arc_of wave) (IsSized wave) u x limit network

-- how many places stand before one, where each row of a small wave has 299 past the splits
abbrev pub rank : Wave → ℕ → ℕ → ℕ
rank wave u x = 299 * u + (x - length wave.splits)

-- with at most one arc for each place before
abbrev pub IsBuilt : Wave → ℕ → ℕ → Flow RackLayout → Type 0
IsBuilt wave u x network = IsBuiltWithin wave u x (rank wave u x) network
