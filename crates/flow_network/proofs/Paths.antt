-- Paths one after the other.
use Rattle.std.proofs.Common.{ℕ, List, [], ◌∷◌, ◌++◌, sym, subst}
use Rattle.flow_network.specs.declared.arcs.FlowArc.{FlowArc}
use Rattle.flow_network.specs.declared.arcs.ArcNo.{ArcNo}
use Rattle.flow_network.specs.Flows.{IsPath}

pub IsPath-append : (arcs : List FlowArc) (flows : List ℕ) (p q : List ArcNo) (u x v : ℕ) →
    IsPath arcs flows p u x → IsPath arcs flows q x v → IsPath arcs flows (p ++ q) u v
IsPath-append arcs flows [] q u x v a b = subst (λ y. IsPath arcs flows q y v) (sym a) b
IsPath-append arcs flows (e ∷ p) q u x v a b = (a.0, a.1, IsPath-append arcs flows p q _ x v a.2 b)
