use Rattle.std.proofs.Common.{◌≡◌, [], replicate}
use Rattle.shortest_paths.proofs.residual_arcs.none_matched.Given as goal

abbrev pub invariant-loop-node : goal.invariant-loop-node
invariant-loop-node l = l.matched.items ≡ replicate l._node []
