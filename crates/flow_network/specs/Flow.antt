-- A network as its callers see it.
use Rattle.std.specs.Prelude.{◌≡◌, ℕ, ◌<◌, ◌≤◌, List, [], length, slice_index_or}
use Rattle.flow_network.specs.declared.arcs.FlowArc.{FlowArc}
use Rattle.flow_network.specs.declared.arcs.ArcNo.{ArcNo}
use Rattle.flow_network.specs.Flows.{WithinCapacities, AreArcs, leaving_of}

pub record Flow (L : Type 0) : Type 0 where
  pub layout : L
  pub arcs : List FlowArc
  pub flows : List ℕ

-- arcs between so many nodes, one flow for each arc, within its capacity, and for each node the arcs that
-- leave it
pub record IsFlow (nodes : ℕ) (arcs : List FlowArc) (flows : List ℕ)
    (leaving : List (List ArcNo)) : Type 0 where
  pub node_limit : nodes ≤ 4096
  pub arc_limit : length arcs ≤ 1048576
  pub arcs_in : AreArcs nodes arcs
  pub sizes : length flows ≡ length arcs
  pub within : WithinCapacities arcs flows
  pub node_size : length leaving ≡ nodes
  pub listed : (u : ℕ) → u < nodes → slice_index_or leaving u [] ≡ leaving_of arcs u

-- a network and how many of its arcs were looked at
pub record Counted (L : Type 0) : Type 0 where
  pub network : Flow L
  pub count : ℕ
