-- A network by its table: which arcs it has, one at most from a node to another, and how far a list has them.
use Rattle.std.specs.Prelude.{◌≡◌, ℕ, ◌<◌, List, length, ◌⊎◌}
use Rattle.flow_network.specs.declared.arcs.FlowArc.{FlowArc}
use Rattle.flow_network.specs.Flow.{Flow}
use Rattle.flow_network.specs.Flows.{arc_at}
use Rattle.network_prices.specs.Networks.{HasArc}
use Rattle.network_prices.specs.Building.{IsEmptyWithin}

-- the place of an arc, the row of its start and the column of its end, lies before the row u and the column x
abbrev pub IsBefore : FlowArc → ℕ → ℕ → Type 0
IsBefore a u x = (a.from < u) ⊎ ((a.from ≡ u) × (a.to < x))

-- by rising start, and from one start by rising end, so that none stands twice
abbrev pub AreRisingArcs : List FlowArc → Type 0
AreRisingArcs arcs = (j k : ℕ) → j < k → k < length arcs →
    IsBefore (arc_at arcs j) (arc_at arcs k).from (arc_at arcs k).to

-- The rows of a table are given by kinds of arcs: which of them are wanted, and what they are. The arcs of
-- a list are those of the table and no others, each once.
pub record AreRows {D : Type 0} (wanted : D → Type 0) (arc : D → FlowArc) (arcs : List FlowArc) : Type 0 where
  pub sound : (k : ℕ) → k < length arcs → (d : D) × wanted d × (arc_at arcs k ≡ arc d)
  pub complete : (d : D) → wanted d → HasArc arcs (arc d)
  pub rising : AreRisingArcs arcs

-- those before a place
pub record AreRowsTo {D : Type 0} (wanted : D → Type 0) (arc : D → FlowArc) (u x : ℕ)
    (arcs : List FlowArc) : Type 0 where
  pub sound : (k : ℕ) → k < length arcs → (d : D) × wanted d × (arc_at arcs k ≡ arc d)
  pub complete : (d : D) → wanted d → IsBefore (arc d) u x → HasArc arcs (arc d)
  pub rising : AreRisingArcs arcs
  pub before : (k : ℕ) → k < length arcs → IsBefore (arc_at arcs k) u x

-- a network with those arcs, at most so many, none of which carries a unit
pub record IsBuiltTo {D L : Type 0} (wanted : D → Type 0) (arc : D → FlowArc) (sized : L →
    Type 0) (u x limit : ℕ)
    (network : Flow L) : Type 0 where
  pub frame : IsEmptyWithin sized limit network
  pub rows : AreRowsTo wanted arc u x network.arcs
