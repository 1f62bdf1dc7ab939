use Rattle.std.proofs.Common.{◌≡◌, ℕ, ◌<◌, length, get_or}
use Rattle.network_prices.specs.Layers.{nodes_from}
use Rattle.network_prices.specs.Pricing.{IsSlotPrice}
use Rattle.network_prices.proofs.pricing.slot_prices.Given as goal

abbrev pub invariant-loop-i : goal.invariant-loop-i
invariant-loop-i g l = (length l.prices.items ≡ l.i) × ((w : ℕ) → w < l.i → IsSlotPrice l.problem
    (nodes_from l.problem (g.N.WaveNetwork.first l.problem) (g.N.WaveNetwork.above l.problem))
    (λ v. get_or l.depths v 0) w (get_or l.prices.items w 0))
