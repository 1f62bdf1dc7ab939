-- Where the live holders of a split stand, by marks at the workers, the racks and the data centres.
use Rattle.std.specs.Prelude.{ℕ, ◌≡◌, ◌≤◌, ◌==◌, List, length, slice_index, if◌then◌else◌}
use Rattle.std.specs.List.{list_any}
use Rattle.rack_tree.specs.Tree.{Tree, centre_at}
use Rattle.wave_problem.specs.Wave.{Wave}
use Rattle.direct_network.specs.declared.marks.Marks.{Marks}

-- so many places, each with a mark of at most n
pub record AreTo (places n : ℕ) (table : List ℕ) : Type 0 where
  pub size : length table ≡ places
  pub most : (k : ℕ) → slice_index table k ≤ n

-- a table for each level of the wave's tree
pub record AreMarksTo (wave : Wave) (n : ℕ) (marks : Marks) : Type 0 where
  pub workers : AreTo (length wave.workers) n marks.workers.items
  pub racks : AreTo (length wave.tree.centre_of) n marks.racks.items
  pub centres : AreTo wave.tree.centres n marks.centres.items

-- a place has the mark n if one of the listed workers stands there
abbrev pub AreAt : (ℕ → ℕ) → List ℕ → ℕ → List ℕ → Type 0
AreAt place live n table = (k : ℕ) → slice_index table k == n ≡ list_any (λ h. place h == k) live

-- so it is at each level
pub record Shows (tree : Tree) (live : List ℕ) (n : ℕ) (marks : Marks) : Type 0 where
  pub workers : AreAt (λ h. h) live n marks.workers.items
  pub racks : AreAt (λ h. slice_index tree.rack_of h) live n marks.racks.items
  pub centres : AreAt (centre_at tree) live n marks.centres.items

-- the steps from w to the nearest place that has the mark n
abbrev pub steps_from : Tree → ℕ → Marks → ℕ → ℕ
steps_from tree n marks w =
    if slice_index marks.workers.items w == n then 0
    else if slice_index marks.racks.items (slice_index tree.rack_of w) == n then 2
    else if slice_index marks.centres.items (centre_at tree w) == n then 4
    else 6
