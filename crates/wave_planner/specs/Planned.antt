-- A plan with prices, as a caller sees it.
use Rattle.std.specs.Prelude.{ℕ, ◌≡◌, ◌<◌, ◌⊎◌, List, Option, length}
use Rattle.wave_problem.specs.Wave.{Wave}
use Rattle.wave_problem.specs.Assignment.{Plan}
use Rattle.price_certificate.specs.PriceList.{PriceList}
use Rattle.price_certificate.specs.Certificate.{charged_claim, claim, HasOneSize}
use Rattle.certificate_checker.specs.declared.Certified.{Certified}
use Rattle.certificate_checker.specs.Verdict.{IsCertified}
use Rattle.flow_network.specs.declared.kinds.NetworkKind.{NetworkKind}
use Rattle.flow_network.specs.declared.kinds.NetworkKind.TheVariants.{Direct, Racks}
use Rattle.network_prices.specs.Prices.{IsReadOff}
use Rattle.direct_network.specs.Direct.{direct_nodes, IsDirect}
use Rattle.direct_network.specs.declared.network.TheConstants.{MAX_SPLITS, MAX_WORKERS}
use Rattle.rack_network.specs.Racks.{rack_nodes, IsRackNetwork}

pub record Planned : Type 0 where
  pub plan : Plan
  pub prices : PriceList
  pub certified : Certified

-- the prices certify the plan in the wave with these prices of places, with this count, cost and charge of places
pub record IsPlanFor (wave : Wave) (places : List (List ℕ)) (planned : Planned) : Type 0 where
  pub one_size : HasOneSize (claim wave planned.plan.starts planned.prices) planned.plan.workers
  pub certified : IsCertified (charged_claim wave places planned.plan.starts planned.prices) planned.certified

-- they did so in some wave
pub record WasCertified (planned : Planned) : Type 0 where
  pub wave : Wave
  pub places : List (List ℕ)
  pub plan_for : IsPlanFor wave places planned

-- the direct network is asked for, and the problem has more splits or more workers than it is built for
abbrev pub IsPast : NetworkKind → Wave → Type 0
IsPast kind wave =
    (kind ≡ Direct) × ((MAX_SPLITS < length wave.splits) ⊎ (MAX_WORKERS < length wave.workers))

-- starts and prices that were read off a least-cost flow of the network of this kind
abbrev pub IsMadeOver : NetworkKind → Wave → List (Option ℕ) → PriceList → Type 0
IsMadeOver Direct wave starts prices = IsReadOff wave (direct_nodes wave) (IsDirect wave) starts prices
IsMadeOver Racks wave starts prices = IsReadOff wave (rack_nodes wave) (IsRackNetwork wave) starts prices
