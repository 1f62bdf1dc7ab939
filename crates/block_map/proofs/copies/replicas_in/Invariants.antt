use Rattle.std.proofs.Common.{◌≡◌, ◌≤◌, take}
use Rattle.block_map.specs.Copies.{replicas_in}
use Rattle.block_map.proofs.copies.replicas_in.Given as goal

abbrev pub invariant-loop-holder : goal.invariant-loop-holder
invariant-loop-holder l = record {
  counted : l.count ≡ replicas_in l.tree l.rack (take l.holder-index l.holders);
  few : l.count ≤ l.holder-index;
}
