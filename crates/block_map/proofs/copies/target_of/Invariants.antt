use Rattle.block_map.specs.Copies.{holdings}
use Rattle.block_map.proofs.Copying.{IsFewest, IsTargetBelow}
use Rattle.block_map.proofs.copies.target_of.Given as goal

abbrev pub invariant-loop-i : goal.invariant-loop-i
invariant-loop-i l = record {
  target : IsTargetBelow (holdings l.table l.tree l.blocks 0) l.split l.i l.best;
  fewest : IsFewest (holdings l.table l.tree l.blocks 0) l.split l.best l.fewest;
}
