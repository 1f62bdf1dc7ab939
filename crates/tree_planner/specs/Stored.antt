-- Where the ends of splits are stored.
use Rattle.std.specs.Prelude.{ℕ, ◌≡◌, ◌+◌, ◌≤◌, ◌++◌, ◌∷◌, ◌↔◌, [], ⊤, List, take, drop}
use Rattle.wave_problem.specs.Wave.{Wave}
use Rattle.tree_flow.specs.declared.nodes.End.{End}
use Rattle.tree_flow.specs.Nodes.{IsEnd}
use Rattle.tree_planner.specs.declared.split_ends.Group.{Group}
use Rattle.tree_planner.specs.declared.split_ends.Stored.{Stored}
use Rattle.tree_planner.specs.declared.split_ends.Stored.TheVariants.{Shared, Own}
use Rattle.tree_planner.specs.Ends.{Grouped, HasEnd}

-- the ends that are stored in this way, with the shared list of groups
abbrev pub stored_at : List Group → Stored → Grouped
stored_at shared (Shared from count) = record { groups = take count (drop from shared); barred = [] }
stored_at shared (Own ends) = ends

-- stored groups lie within a shared list of this length
abbrev pub IsWithin : ℕ → Stored → Type 0
IsWithin size (Shared from count) = from + count ≤ size
IsWithin size (Own ends) = ⊤

-- the second list is the first one with the ends of the split s added
pub record IsAdded (wave : Wave) (s : ℕ) (old new : List Grouped) : Type 0 where
  pub ends : Grouped
  pub items : new ≡ old ++ ends ∷ []
  pub same : (e : End) → HasEnd wave.tree ends e ↔ IsEnd wave s e
