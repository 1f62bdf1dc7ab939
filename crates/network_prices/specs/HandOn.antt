-- Units are handed on from node to node, arc by arc.
use Rattle.std.specs.Prelude.{◌≡◌, ℕ, ◌+◌, ◌-◌, ◌<◌, ◌≤◌, ◌==◌, cond, List, length, slice_index, take, drop}
use Rattle.std.specs.Prelude.{◌⊎◌}
use Rattle.flow_network.specs.declared.arcs.FlowArc.{FlowArc}
use Rattle.flow_network.specs.Flows.{arc_at, inflow, outflow}
use Rattle.augmenting_paths.specs.Shipping.{standing}
use Rattle.network_prices.specs.Ways.{CameFrom}

-- so many units have moved from u to v
pub record IsMoved (old new : List ℕ) (u v units : ℕ) : Type 0 where
  pub size : length new ≡ length old
  pub each : (s : ℕ) → s < length old → (slice_index new s ≡ slice_index old s)
      ⊎ ((0 < units) × (slice_index old s ≡ u) × (slice_index new s ≡ v))
  pub counts : (x : ℕ) → standing new x + cond (u == x) units 0 ≡ standing old x + cond (v == x) units 0

-- no arc from a node leads to the sink, or every one does
abbrev pub Passes : List FlowArc → ℕ → ℕ → Type 0
Passes arcs sink v = (k : ℕ) → k < length arcs → (arc_at arcs k).from ≡ v → (arc_at arcs k).to ≡ sink → ⊥

abbrev pub EndsAtSink : List FlowArc → ℕ → ℕ → Type 0
EndsAtSink arcs sink v = (k : ℕ) → k < length arcs → (arc_at arcs k).from ≡ v → (arc_at arcs k).to ≡ sink

-- what is asked of a flow and its units' first places: each arc leads to a node past the starts of those
-- before it, and a node that gives to another than the sink gives to others alone, and just what it has
pub record CanHandOn (arcs : List FlowArc) (flows : List ℕ) (sink : ℕ) (first : List ℕ) : Type 0 where
  pub sizes : length flows ≡ length arcs
  pub ordered : (j k : ℕ) → j ≤ k → k < length arcs → (arc_at arcs j).from < (arc_at arcs k).to
  pub passes : (j : ℕ) → j < length arcs → ((arc_at arcs j).to ≡ sink → ⊥) →
      Passes arcs sink (arc_at arcs j).from
  pub balanced : (j : ℕ) → j < length arcs → ((arc_at arcs j).to ≡ sink → ⊥)
      → inflow arcs flows (arc_at arcs j).from + standing first (arc_at arcs j).from
      ≡ outflow arcs flows (arc_at arcs j).from
  pub first_off : (s : ℕ) → s < length first → slice_index first s ≡ sink → ⊥
  pub not_at_sink : (j : ℕ) → j < length arcs → (arc_at arcs j).from ≡ sink → ⊥

-- the units are where the first arcs but those to the sink have brought them
pub record IsHandedOn (arcs : List FlowArc) (flows : List ℕ) (sink : ℕ) (first now : List ℕ)
    (j : ℕ) : Type 0 where
  pub size : length now ≡ length first
  pub came : (s : ℕ) → s < length first
      → (path : List ℕ) × CameFrom arcs flows path (slice_index first s) (slice_index now s)
  pub off_sink : (s : ℕ) → s < length first → slice_index now s ≡ sink → ⊥
  pub passing : (v : ℕ) → (v ≡ sink → ⊥) → Passes arcs sink v
      → standing now v + outflow (take j arcs) (take j flows) v
      ≡ inflow (take j arcs) (take j flows) v + standing first v
  pub ending : (v : ℕ) → (v ≡ sink → ⊥) → EndsAtSink arcs sink v
      → standing now v ≡ inflow (take j arcs) (take j flows) v + standing first v

-- the same in the midst of it: the places below i have been looked at, and so many units are left to move
pub record IsMoving (old now : List ℕ) (u v units left i : ℕ) : Type 0 where
  pub size : length now ≡ length old
  pub few_left : left ≤ units
  pub each : (s : ℕ) → s < length old → (slice_index now s ≡ slice_index old s)
      ⊎ ((left < units) × (slice_index old s ≡ u) × (slice_index now s ≡ v))
  pub rest : (s : ℕ) → i ≤ s → slice_index now s ≡ slice_index old s
  pub counts : (x : ℕ) → standing now x + cond (u == x) (units - left) 0 ≡ standing old x
      + cond (v == x) (units - left) 0
  pub enough : left ≤ standing (drop i now) u
