use Rattle.std.proofs.Common.{◌≡◌}
use Rattle.block_map.specs.Copies.{copies_below, holdings}
use Rattle.block_map.proofs.copies.copy_orders.Given as goal

abbrev pub invariant-loop-i : goal.invariant-loop-i
invariant-loop-i l = l.orders.items ≡ copies_below (holdings l.table l.tree l.blocks l.target) l.i
