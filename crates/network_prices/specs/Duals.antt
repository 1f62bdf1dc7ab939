-- Conversely, what prices certify is read off a least-cost flow of each network of its wave.
use Rattle.std.specs.Prelude.{ℕ, ◌≡◌, List, Option}
use Rattle.flow_network.specs.declared.arcs.FlowArc.{FlowArc}
use Rattle.wave_problem.specs.Wave.{Wave, IsUsable}
use Rattle.price_certificate.specs.PriceList.{PriceList}
use Rattle.price_certificate.specs.Certificate.{claim, Certifies, HasOneSize, worker_price}
use Rattle.network_prices.specs.Layers.{nodes_from, IsLayered}
use Rattle.network_prices.specs.Networks.{IsWaveNetwork}
use Rattle.network_prices.specs.Prices.{IsReadOff}

-- whatever nodes the network has above the workers, if slots that nobody can take have no price
abbrev pub CertifiedIsReadOff : Type 0
CertifiedIsReadOff =
    (wave : Wave) (first : ℕ) (above : ℕ → List ℕ) (arcs : List FlowArc)
    (starts : List (Option ℕ)) (workers : ℕ) (prices : PriceList)
    → IsLayered wave first arcs → IsWaveNetwork wave (nodes_from wave first above) arcs
    → HasOneSize (claim wave starts prices) workers → Certifies (claim wave starts prices)
    → ((w : ℕ) → (IsUsable wave.workers w → ⊥) → worker_price prices w ≡ 0)
    → IsReadOff wave (nodes_from wave first above) (λ own. own ≡ arcs) starts prices
