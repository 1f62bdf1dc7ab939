-- Each wave has a rack network, and what prices certify is read off a least-cost flow of it.
use Rattle.std.specs.Prelude.{ℕ, ◌≡◌, List, Option}
use Rattle.flow_network.specs.declared.arcs.FlowArc.{FlowArc}
use Rattle.wave_problem.specs.Wave.{Wave, IsUsable}
use Rattle.price_certificate.specs.PriceList.{PriceList}
use Rattle.price_certificate.specs.Certificate.{claim, Certifies, HasOneSize, worker_price}
use Rattle.network_prices.specs.Prices.{IsReadOff}
use Rattle.rack_network.specs.Racks.{rack_nodes, IsRackNetwork, IsTree}

abbrev pub RackNetworkExists : Type 0
RackNetworkExists = (wave : Wave) → IsTree wave → (arcs : List FlowArc) × IsRackNetwork wave arcs

-- if slots that nobody can take have no price
abbrev pub CertifiedIsOverRacks : Type 0
CertifiedIsOverRacks = (wave : Wave) (starts : List (Option ℕ)) (workers : ℕ) (prices : PriceList)
    → IsTree wave → HasOneSize (claim wave starts prices) workers → Certifies (claim wave starts prices)
    → ((w : ℕ) → (IsUsable wave.workers w → ⊥) → worker_price prices w ≡ 0)
    → IsReadOff wave (rack_nodes wave) (IsRackNetwork wave) starts prices
