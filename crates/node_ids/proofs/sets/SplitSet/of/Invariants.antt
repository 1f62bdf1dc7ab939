use Rattle.std.proofs.Common.{◌≡◌, List, ℕ, []}
use Rattle.std.specs.Prelude.{drop}
use Rattle.std.specs.List.{fold}
use Rattle.node_ids.specs.Sets.{row_of_all, row_with}
use Rattle.node_ids.proofs.sets.SplitSet.of.Given as goal

-- the set with the numbers that are still to come is that of all
abbrev pub invariant-loop-split : goal.invariant-loop-split
invariant-loop-split l =
    fold (λ row n. row_with n row) l.set (drop l.split-index l.split-items) ≡ row_of_all l.split-items
