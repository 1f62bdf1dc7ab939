-- What is read of an arc and of its flow is within the limits.
use Rattle.std.proofs.Common.{◌≡◌, ℕ, ◌<◌, ◌≤◌, List, length, get_or, arith}
use Rattle.std.proofs.lemmas.List.{get_or_read}
use Rattle.flow_network.specs.declared.arcs.FlowArc.{FlowArc}
use Rattle.flow_network.specs.Flows.{no_arc, AreArcs, IsArc, WithinCapacities}

pub arc_read : {nodes : ℕ} (arcs : List FlowArc) (k : ℕ) (a : FlowArc) → AreArcs nodes arcs
    → k < length arcs → a ≡ get_or arcs k a → IsArc nodes a
arc_read arcs k a are l is = rw (get_or_read arcs k a l is no_arc) (are k l)

pub flow_read : (arcs : List FlowArc) (flows : List ℕ) (k : ℕ) (a : FlowArc) (f : ℕ)
    → WithinCapacities arcs flows → length flows ≡ length arcs → k < length arcs → a ≡ get_or arcs k a
    → f ≡ get_or flows k f → f ≤ a.capacity
flow_read arcs flows k a f within sizes l is flow =
    rw (get_or_read arcs k a l is no_arc, get_or_read flows k f (omega arith) flow 0) (within k l)
