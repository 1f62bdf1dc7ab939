use Rattle.std.proofs.Common.{◌≡◌, length, take}
use Rattle.augmenting_paths.specs.Shipping.{AreMarked}
use Rattle.augmenting_paths.proofs.augment.marked.Given as goal

abbrev pub invariant-loop-source : goal.invariant-loop-source
invariant-loop-source l = record {
  size : length l.marks.items ≡ l.nodes;
  marks : AreMarked (take l.source-index l.sources) l.marks.items;
}
