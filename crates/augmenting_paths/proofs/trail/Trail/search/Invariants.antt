use Rattle.std.proofs.Common.{◌<◌, length}
use Rattle.std.specs.Prelude.{slice_index}
use Rattle.augmenting_paths.specs.DepthFirst.{HasNodes, IsTrail}
use Rattle.augmenting_paths.proofs.trail.Trail.search.Given as goal

abbrev pub invariant-loop-turn : goal.invariant-loop-turn
invariant-loop-turn g l = record {
  nodes : HasNodes (length l.query.potentials.now) l.self;
  inside : l.top < length l.query.potentials.now;
  trail : IsTrail l.network.arcs l.network.flows (slice_index l.query.potentials.now) l.self.closed.items
      l.query.start l.top l.path.items;
}
