use Rattle.std.proofs.Common.{◌≡◌, map, take}
use Rattle.augmenting_paths.proofs.requirements.indices.Given as goal

abbrev pub invariant-loop-node : goal.invariant-loop-node
invariant-loop-node g l = l.indices.items ≡ map (g.L.Layout.index_of l.layout) (take l.node-index l.nodes)
