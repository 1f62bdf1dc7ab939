-- What a residual arc costs under potentials.
use Rattle.std.proofs.Common.{◌≡◌, ℕ, ◌+◌, ◌^◌, ◌<◌, ◌≤◌, List, length, arith}
use Rattle.std.proofs.lemmas.Int.{ints}
use Rattle.std.specs.Prelude.{pos, neg_ℤ, ◌+ℤ◌, ◌-ℤ◌, ◌≤ℤ◌}
use Rattle.flow_network.specs.declared.arcs.FlowArc.{FlowArc}
use Rattle.flow_network.specs.declared.arcs.ArcNo.{ArcNo}
use Rattle.flow_network.specs.declared.arcs.ArcNo.TheVariants.{Forward, Reverse}
use Rattle.flow_network.specs.Flows.{AreArcs, IsNonNegative, NoNegative, tail_of, head_of, arc_index, cost_of}
use Rattle.flow_network.specs.Flows.{IsResidual, reduced_cost}

-- the nodes that a listed arc joins
pub tail_in : (nodes : ℕ) (arcs : List FlowArc) (a : ArcNo) → AreArcs nodes arcs → arc_index a < length arcs
    → tail_of arcs a < nodes
tail_in nodes arcs (Forward k) are l = (are k l).from_in
tail_in nodes arcs (Reverse k) are l = (are k l).to_in

pub head_in : (nodes : ℕ) (arcs : List FlowArc) (a : ArcNo) → AreArcs nodes arcs → arc_index a < length arcs
    → head_of arcs a < nodes
head_in nodes arcs (Forward k) are l = (are k l).to_in
head_in nodes arcs (Reverse k) are l = (are k l).from_in

-- it is not negative where the arc may be taken
pub residual_cost : (arcs : List FlowArc) (flows : List ℕ) (h : ℕ → ℕ) (a : ArcNo) → NoNegative arcs flows h
    → IsResidual arcs flows a → IsNonNegative arcs h a
residual_cost arcs flows h (Forward k) n r = (n k r.listed).0 (let some = r.room in omega arith)
residual_cost arcs flows h (Reverse k) n r = (n k r.listed).1 r.room

pub reduced_is : (arcs : List FlowArc) (h : ℕ → ℕ) (a : ArcNo) (r : ℕ) → IsNonNegative arcs h a
    → pos r ≡ (cost_of arcs a +ℤ pos (h (head_of arcs a))) -ℤ pos (h (tail_of arcs a)) →
    r ≡ reduced_cost arcs h a
reduced_is arcs h (Forward k) r n e = omega (arith, ints)
reduced_is arcs h (Reverse k) r n e = omega (arith, ints)

-- the potentials bound it
pub reduced_bound : (arcs : List FlowArc) (nodes : ℕ) (h : ℕ → ℕ) (a : ArcNo) → AreArcs nodes arcs
    → arc_index a < length arcs → IsNonNegative arcs h a
    → reduced_cost arcs h a + h (tail_of arcs a) ≤ h (head_of arcs a) + 2 ^ 47
reduced_bound arcs nodes h (Forward k) are l n = let cost = (are k l).cost_in in omega arith
reduced_bound arcs nodes h (Reverse k) are l n = omega arith

-- and it is within the numbers that are kept
pub cost_fits : (nodes : ℕ) (arcs : List FlowArc) (h : ℕ → ℕ) (a : ArcNo) → AreArcs nodes arcs →
    arc_index a < length arcs → IsNonNegative arcs h a
    → (neg_ℤ (pos (2 ^ 47)) ≤ℤ cost_of arcs a) × (cost_of arcs a ≤ℤ pos (2 ^ 47))
    × (pos (h (tail_of arcs a)) ≤ℤ (cost_of arcs a +ℤ pos (h (head_of arcs a))))
    × (head_of arcs a < nodes) × (reduced_cost arcs h a ≤ 2 ^ 47 + h (tail_of arcs a) + h (head_of arcs a))
cost_fits nodes arcs h (Forward k) are l n = let here = are k l in let cost = here.cost_in in
    (omega (arith, ints), omega (arith, ints), omega (arith, ints), here.to_in, omega arith)
cost_fits nodes arcs h (Reverse k) are l n = let here = are k l in let cost = here.cost_in in
    (omega (arith, ints), omega (arith, ints), omega (arith, ints), here.from_in, omega arith)
