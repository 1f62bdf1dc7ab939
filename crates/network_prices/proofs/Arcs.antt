-- Arcs that stand in a list, and one more at its end.
use Rattle.std.proofs.Common.{◌≡◌, ℕ, zero, suc, ◌<◌, ◌≤◌, List, [], ◌∷◌, ◌++◌, length, get_or, refl}
use Rattle.std.proofs.Common.{◌∙◌, arith}
use Rattle.std.proofs.lemmas.Bool.{cases_lt}
use Rattle.std.proofs.lemmas.Grind.{common_steps}
use Rattle.std.proofs.lemmas.List.{get_or_append_left, get_or_push, length-append, get_or-append_right}
use Rattle.flow_network.specs.declared.arcs.FlowArc.{FlowArc}
use Rattle.flow_network.specs.Flow.{Flow}
use Rattle.flow_network.specs.Flows.{no_arc, arc_at}
use Rattle.network_prices.specs.Networks.{HasArc, IsArcFrom}
use Rattle.network_prices.specs.Building.{IsEmptyWithin, IsAdded}

-- an arc that stands, by its number
pub arc_standing : (arcs : List FlowArc) (a : FlowArc) → HasArc arcs a →
    (k : ℕ) × IsArcFrom arcs k a.from a.to a.capacity a.cost
arc_standing arcs a stands = grind arith

pub at_old : (arcs : List FlowArc) (a : FlowArc) (k : ℕ) → k < length arcs →
    arc_at (arcs ++ a ∷ []) k ≡ arc_at arcs k
at_old arcs a k l = get_or_append_left arcs (a ∷ []) no_arc k l

pub at_new : (arcs : List FlowArc) (a : FlowArc) → arc_at (arcs ++ a ∷ []) (length arcs) ≡ a
at_new arcs a = get_or_push arcs a no_arc (length arcs) refl

pub stands_on : (arcs : List FlowArc) (a b : FlowArc) → HasArc arcs b → HasArc (arcs ++ a ∷ []) b
stands_on arcs a b s = let size = length-append arcs (a ∷ []) in let l = s.1 in
    (s.0, omega arith, at_old arcs a s.0 s.1 ∙ s.2)

pub stands_new : (arcs : List FlowArc) (a : FlowArc) → HasArc (arcs ++ a ∷ []) a
stands_new arcs a = let size = length-append arcs (a ∷ []) in (length arcs, omega arith, at_new arcs a)

-- where each arc has a property, and the one that is added
pub each_push : (P : FlowArc → Type 0) (arcs : List FlowArc) (a : FlowArc) →
    ((k : ℕ) → k < length arcs → P (arc_at arcs k)) → P a
    → (k : ℕ) → k < length (arcs ++ a ∷ []) → P (arc_at (arcs ++ a ∷ []) k)
each_push P arcs a old new k l = grind (arith, common_steps, length-append, cases_lt, at_old, at_new)

-- no arc carries a unit yet
no_more : (i : ℕ) → get_or {A = ℕ} (0 ∷ []) i 0 ≡ 0
no_more zero = refl
no_more (suc i) = refl

zero_push : (flows : List ℕ) → ((k : ℕ) → get_or flows k 0 ≡ 0) → (k : ℕ) → get_or (flows ++ 0 ∷ []) k 0 ≡ 0
zero_push flows z k = grind (arith, cases_lt, get_or_append_left, get_or-append_right, no_more)

pub add_empty : {L : Type 0} (sized : L → Type 0) (limit next : ℕ) (a : FlowArc) (old new : Flow L) →
    limit < next → IsEmptyWithin sized limit old
    → IsAdded a old new → IsEmptyWithin sized next new
add_empty sized limit next a old new less e added = grind (arith, length-append, zero_push)

pub more_room : {L : Type 0} (sized : L → Type 0) (limit next : ℕ) (network : Flow L) → limit ≤ next →
    IsEmptyWithin sized limit network → IsEmptyWithin sized next network
more_room sized limit next network less e =
    record { layout = e.layout; arc_limit = (let limited = e.arc_limit in omega arith); empty = e.empty }
