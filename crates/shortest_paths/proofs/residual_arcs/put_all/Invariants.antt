use Rattle.std.proofs.Common.{◌≡◌, ◌++◌, take}
use Rattle.shortest_paths.proofs.residual_arcs.put_all.Given as goal

abbrev pub invariant-loop-arc : goal.invariant-loop-arc
invariant-loop-arc l = l.list ≡ l.fn.list ++ take l.arc-index l.arcs
