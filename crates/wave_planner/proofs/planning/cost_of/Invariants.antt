use Rattle.std.proofs.Common.{◌≡◌, ◌≤◌, ◌*◌, take}
use Rattle.wave_problem.specs.Assignment.{total}
use Rattle.wave_planner.proofs.planning.cost_of.Given as goal

abbrev pub invariant-loop-pair : goal.invariant-loop-pair
invariant-loop-pair l =
    (l.total ≡ total l.problem (take l.pair-index l.pairs)) × (l.total ≤ 51539607552 * l.pair-index)
