-- The lists of the residual arcs that leave each node.
use Rattle.std.specs.Prelude.{◌≡◌, ℕ, ◌+◌, ◌*◌, ◌<◌, ◌≤◌, Bool, cond, List, [], ◌∷◌, length, suc, Contains}
use Rattle.flow_network.specs.declared.arcs.FlowArc.{FlowArc}
use Rattle.flow_network.specs.declared.arcs.ArcNo.{ArcNo}
use Rattle.flow_network.specs.Flows.{arc_index, tail_of, leaving_of}

abbrev pub ListsHoldEachArc : Type 0
ListsHoldEachArc = (arcs : List FlowArc) (u : ℕ) (a : ArcNo)
    → (arc_index a < length arcs → tail_of arcs a ≡ u → Contains (leaving_of arcs u) a)
    × (Contains (leaving_of arcs u) a → (arc_index a < length arcs) × (tail_of arcs a ≡ u))

-- the sum over the marked nodes, the first of which has number i
abbrev pub marked_sum : List Bool → ℕ → (ℕ → ℕ) → ℕ
marked_sum [] i f = 0
marked_sum (b ∷ marks) i f = cond b (f i) 0 + marked_sum marks (suc i) f

abbrev pub LooksAreFew : Type 0
LooksAreFew = (arcs : List FlowArc) (marks : List Bool)
    → marked_sum marks 0 (λ u. length (leaving_of arcs u)) ≤ 2 * length arcs
