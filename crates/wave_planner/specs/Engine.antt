-- A plan and prices that are read off a flow over the tree are read off a flow of the network with racks.
use Rattle.std.specs.Prelude.{ℕ, List, [], Option}
use Rattle.rack_tree.specs.Tree.{IsWithinReach}
use Rattle.wave_problem.specs.Wave.{Wave}
use Rattle.price_certificate.specs.PriceList.{PriceList}
use Rattle.price_certificate.specs.Certificate.{claim, HasOneSize}
use Rattle.flow_network.specs.declared.kinds.NetworkKind.TheVariants.{Racks}
use Rattle.rack_network.specs.Racks.{IsTree}
use Rattle.tree_flow.specs.Nodes.{IsKnown}
use Rattle.tree_flow.specs.State.{State, IsKept}
use Rattle.tree_flow.specs.Settled.{AreTermsOf, IsHandedDown, ArePrices}
use Rattle.wave_planner.specs.Planned.{IsMadeOver}

-- where all places are free, the state is kept to, each split stands or waits, the units are handed down, and
-- prices are read off
abbrev pub EngineIsAFlow : Type 0
EngineIsAFlow = (wave : Wave) (state : State) (starts : List (Option ℕ)) (workers : ℕ) (prices : PriceList)
    → AreTermsOf wave [] state.terms → IsTree wave → IsWithinReach wave.tree → IsKnown wave
    → HasOneSize (claim wave starts prices) workers → IsKept wave state → IsHandedDown wave state starts
    → ArePrices wave state starts prices
    → IsMadeOver Racks wave starts prices
