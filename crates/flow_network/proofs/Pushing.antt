-- The loop that pushes a unit over each arc of a path.
use Rattle.std.proofs.Common.{◌≡◌, ℕ, ◌+◌, ◌<◌, List, [], ◌∷◌, length, get_or, sym, ap, ◌∙◌, subst}
use Rattle.std.proofs.Common.{arith, get_or-set_same, get_or-set_other, drop, All}
use Rattle.std.proofs.lemmas.List.{drop_more}
use Rattle.std.proofs.lemmas.Bool.{cases_eq}
use Rattle.std.proofs.lemmas.List.Elements.{All-nil, All-cons, All-head, All-tail}
use Rattle.flow_network.specs.declared.arcs.FlowArc.{FlowArc}
use Rattle.flow_network.specs.declared.arcs.ArcNo.{ArcNo}
use Rattle.flow_network.specs.declared.arcs.ArcNo.TheVariants.{Forward, Reverse}
use Rattle.flow_network.specs.Flows.{IsResidual, IsPath, shifted, Lacks, WithinCapacities, IsPushing}
use Rattle.flow_network.proofs.Balance.{room_stays, length-shifted}

-- each arc of a path has room
pub residual_path : (arcs : List FlowArc) (flows : List ℕ) (path : List ArcNo) (u v : ℕ) →
    IsPath arcs flows path u v → All (IsResidual arcs flows) path
residual_path arcs flows [] u v p = All-nil (IsResidual arcs flows)
residual_path arcs flows (a ∷ path) u v p =
    All-cons (IsResidual arcs flows) a path p.0 (residual_path arcs flows path _ v p.2)

residual-shifted : (arcs : List FlowArc) (flows : List ℕ) (a : ArcNo) (path : List ArcNo) →
    length flows ≡ length arcs → IsResidual arcs flows a
    → Lacks a path → All (IsResidual arcs flows) path → All (IsResidual arcs (shifted flows a)) path
residual-shifted arcs flows a [] e r n p = All-nil (IsResidual arcs (shifted flows a))
residual-shifted arcs flows a (b ∷ path) e r n p =
    let here = p 0 b (omega arith) in
    All-cons (IsResidual arcs (shifted flows a)) b path
    (record { listed = here.listed; room = room_stays arcs flows a b e r n.0 here.room })
    (residual-shifted arcs flows a path e r n.1 (All-tail (IsResidual arcs flows) b path p))

within-shifted : (arcs : List FlowArc) (flows : List ℕ) (a : ArcNo) → length flows ≡ length arcs →
    IsResidual arcs flows a
    → WithinCapacities arcs flows → WithinCapacities arcs (shifted flows a)
within-shifted arcs flows (Forward i) e r w k l =
    grind (arith, cases_eq, get_or-set_same, get_or, get_or-set_other)
within-shifted arcs flows (Reverse i) e r w k l =
    grind (arith, cases_eq, get_or-set_same, get_or, get_or-set_other)

-- one turn of the loop
pub pushing_step : {arcs : List FlowArc} {flows : List ℕ} {a : ArcNo} {rest : List ArcNo} {last : List ℕ}
    → IsPushing arcs flows (a ∷ rest) last → IsPushing arcs (shifted flows a) rest last
pushing_step {arcs} {flows} {a} {rest} p =
    let here : IsResidual arcs flows a = All-head (IsResidual arcs flows) a rest p.residual in
    let next : All (IsResidual arcs flows) rest = All-tail (IsResidual arcs flows) a rest p.residual in
    grind (arith, length-shifted, within-shifted, residual-shifted)

-- and the last flows keep within the capacities
pub pushed_within : (arcs : List FlowArc) (flows : List ℕ) (path : List ArcNo) (last : List ℕ) →
    IsPushing arcs flows path last → WithinCapacities arcs last
pushed_within arcs flows [] last p = subst (WithinCapacities arcs) p.rest_is p.within
pushed_within arcs flows (a ∷ path) last p = pushed_within arcs (shifted flows a) path last (pushing_step p)

-- the next arc, and what holds once it is done
module _ (arcs : List FlowArc) (flows : List ℕ) (path : List ArcNo) (last : List ℕ) (i : ℕ) (a : ArcNo)
    (l : i < length path) (e : get_or path i (Forward 0) ≡ a)
    (p : IsPushing arcs flows (drop i path) last) where
  begun : IsPushing arcs flows (a ∷ drop (i + 1) path) last
  begun = subst (λ rest. IsPushing arcs flows rest last)
      (drop_more path i (Forward 0) l ∙ ap (λ b. b ∷ drop (i + 1) path) e) p

  pub pushing_head : IsResidual arcs flows a
  pushing_head = All-head (IsResidual arcs flows) a (drop (i + 1) path) begun.residual

  pub pushing_turn : (next : List ℕ) → next ≡ shifted flows a → IsPushing arcs next (drop (i + 1) path) last
  pushing_turn next n = subst (λ f. IsPushing arcs f (drop (i + 1) path) last) (sym n) (pushing_step begun)
