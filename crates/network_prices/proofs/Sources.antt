-- The pending splits as sources: each has a way to the sink.
use Rattle.std.proofs.Common.{◌≡◌, ℕ, suc, true, List, [], ◌∷◌, ◌++◌, map, arith}
use Rattle.std.proofs.lemmas.Bool.{cases_lt, cases_eq}
use Rattle.std.proofs.lemmas.List.{map-append}
use Rattle.flow_network.specs.declared.arcs.FlowArc.{FlowArc}
use Rattle.flow_network.specs.Flows.{AreArcs}
use Rattle.augmenting_paths.specs.Shipping.{CanShip}
use Rattle.wave_problem.specs.Wave.{Wave, split_at}
use Rattle.network_prices.specs.Pending.{pending_below, pending_splits}
use Rattle.network_prices.specs.Networks.{WaveNodes, IsWaveNetwork}
use Rattle.network_prices.proofs.Pending.{source_in, sources_rise, pending-more}

pub can_ship : (wave : Wave) (nodes : WaveNodes) (arcs : List FlowArc) (size : ℕ)
    → IsWaveNetwork wave nodes arcs → AreArcs size arcs
    → CanShip size arcs (pending_splits wave) nodes.sink
can_ship wave nodes arcs size network ends = grind (arith, source_in, cases_eq, cases_lt, sources_rise)

-- one node more
pub places-push : {X : Type 0} (place : X → ℕ) (wave : Wave) (n : ℕ) (xs : List X) (x : X)
    → map place xs ≡ pending_below wave n → (split_at wave n).pending ≡ true → place x ≡ n
    → map place (xs ++ x ∷ []) ≡ pending_below wave (suc n)
places-push place wave n xs x are pending here = grind (arith, map-append, pending-more)
