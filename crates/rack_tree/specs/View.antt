use Rattle.std.specs.Prelude.{◌<◌, ◌≤◌, length, All}
use Rattle.rack_tree.specs.Tree.{Tree, AreCentresKnown}
use Rattle.rack_tree.specs.declared.RackTree.TheInside.{Inside}
use Rattle.rack_tree.specs.declared.TheConstants.{MAX_CENTRES, MAX_RACKS, MAX_WORKERS}

-- the fields of a tree as the tree that callers see
abbrev pub tree_of : Inside → Tree
tree_of t = record { centres = t.centres; centre_of = t.centre_of.items; rack_of = t.rack_of.items }

-- what every tree keeps to
pub record IsWithinLimits (tree : Tree) : Type 0 where
  pub centres : tree.centres ≤ MAX_CENTRES
  pub racks : length tree.centre_of ≤ MAX_RACKS
  pub workers : length tree.rack_of ≤ MAX_WORKERS
  pub centres_known : AreCentresKnown tree
  pub known : All (λ rack. rack < length tree.centre_of) tree.rack_of
