use Rattle.std.proofs.Common.{◌≡◌, ℕ, List, length, drop}
use Rattle.flow_network.specs.Flows.{pushed}
use Rattle.shortest_paths.specs.Matched.{AreMatched, GoesOnce, IsFollowing}
use Rattle.shortest_paths.proofs.residual_arcs.ResidualArcs.follow.Given as goal

abbrev pub invariant-loop-arc : goal.invariant-loop-arc
invariant-loop-arc g l = record {
  lists : l.self ≡ record l.fn.self { matched = l.self.matched };
  size : length l.self.matched ≡ length l.fn.self.matched;
  following : (flows : List ℕ) → l.network.flows ≡ pushed l.path flows → GoesOnce l.path
      → AreMatched l.network.arcs flows l.fn.self
      → IsFollowing l.network.arcs l.network.flows (drop l.arc-index l.path) l.self;
}
