use Rattle.std.proofs.Common.{ℕ, ◌+◌, ◌<◌, ◌≤◌, get_or, take, Contains}
use Rattle.flow_network.specs.declared.arcs.ArcNo.TheVariants.{Forward}
use Rattle.flow_network.specs.Flows.{arc_at, leaving_of}
use Rattle.augmenting_paths.proofs.augment.least_depth.Given as goal

abbrev pub invariant-loop-arc : goal.invariant-loop-arc
invariant-loop-arc g l = (k : ℕ) → Contains (take l.arc-index (leaving_of l.network.arcs l.node)) (Forward k)
    → 0 < (arc_at l.network.arcs k).capacity
    → l.least ≤ (arc_at l.network.arcs k).cost + get_or l.depths (arc_at l.network.arcs k).to 0
