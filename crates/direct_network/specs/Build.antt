-- How far the direct network of a wave is built.
use Rattle.std.specs.Prelude.{ℕ}
use Rattle.wave_problem.specs.Wave.{Wave}
use Rattle.flow_network.specs.Flow.{Flow}
use Rattle.network_prices.specs.Tables.{IsBuiltTo}
use Rattle.direct_network.specs.declared.layout.DirectLayout.{DirectLayout}
use Rattle.direct_network.specs.Direct.{arc_of, IsSized, IsWanted}

-- as far as the row u and the column x, with at most so many arcs
abbrev pub IsBuilt : Wave → ℕ → ℕ → ℕ → Flow DirectLayout → Type 0
IsBuilt wave u x limit network = IsBuiltTo (IsWanted wave) (arc_of wave) (IsSized wave) u x limit network
