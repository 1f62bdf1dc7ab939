use Rattle.std.proofs.Common.{◌≡◌, ◌≤◌, take, map, IfSome}
use Rattle.wave_problem.specs.Sums.{least}
use Rattle.wave_problem.specs.Wave.{live_among}
use Rattle.rack_tree.specs.Tree.{distance}
use Rattle.wave_problem.proofs.problem.least_distance.Given as goal

abbrev pub invariant-loop-holder : goal.invariant-loop-holder
invariant-loop-holder l =
    (l.nearest ≡ least (map (λ h. distance l.tree h l.to)
    (live_among l.workers (take l.holder-index l.holders))))
    × IfSome l.nearest (λ steps. steps ≤ 6)
