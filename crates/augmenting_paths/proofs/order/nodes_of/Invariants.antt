use Rattle.std.proofs.Common.{◌≡◌, map, take}
use Rattle.augmenting_paths.proofs.order.nodes_of.Given as goal

abbrev pub invariant-loop-key : goal.invariant-loop-key
invariant-loop-key l = l.nodes.items ≡ map (λ p. p.1) (take l.key-index l.keys)
