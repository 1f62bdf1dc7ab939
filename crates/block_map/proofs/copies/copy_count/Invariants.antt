use Rattle.std.proofs.Common.{◌≡◌, ◌≤◌, length}
use Rattle.block_map.specs.Copies.{copies_below, holdings}
use Rattle.rack_tree.specs.Tree.{Tree}
use Rattle.block_map.proofs.copies.copy_count.Given as goal

abbrev pub invariant-loop-i : goal.invariant-loop-i
invariant-loop-i l = record {
  counted : (tree : Tree) → l.count ≡ length (copies_below (holdings l.table tree l.blocks l.target) l.i);
  few : l.count ≤ l.i;
}
