-- How a network grows, whatever its layout.
use Rattle.std.specs.Prelude.{◌≡◌, ℕ, ◌≤◌, [], ◌∷◌, ◌++◌, length, slice_index}
use Rattle.flow_network.specs.declared.arcs.FlowArc.{FlowArc}
use Rattle.flow_network.specs.Flow.{Flow}

-- a network whose layout is of the right size, with at most so many arcs, none of which carries a unit
pub record IsEmptyWithin {L : Type 0} (sized : L → Type 0) (limit : ℕ) (network : Flow L) : Type 0 where
  pub layout : sized network.layout
  pub arc_limit : length network.arcs ≤ limit
  pub empty : (k : ℕ) → slice_index network.flows k ≡ 0

-- one network after an arc was added to another
abbrev pub IsAdded : {L : Type 0} → FlowArc → Flow L → Flow L → Type 0
IsAdded a old new = (new.layout ≡ old.layout) × (new.arcs ≡ old.arcs ++ a ∷ [])
    × (new.flows ≡ old.flows ++ 0 ∷ [])
