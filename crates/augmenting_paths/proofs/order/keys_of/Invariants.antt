use Rattle.std.proofs.Common.{◌≡◌, map, take}
use Rattle.augmenting_paths.proofs.order.keys_of.Given as goal

abbrev pub invariant-loop-source : goal.invariant-loop-source
invariant-loop-source l = map (λ p. p.1) l.keys.items ≡ take l.source-index l.sources
