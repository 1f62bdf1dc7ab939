use Rattle.std.proofs.Common.{length, None, get_or, sym, ap, ◌∙◌, arith}
use Rattle.shortest_paths.specs.Paths.{option_distance}
use Rattle.shortest_paths.proofs.AllPaths.{length-paths, distance_found}
use Rattle.shortest_paths.proofs.reached.Distances.of.Goals as goal

pub distance-requires : goal.distance-requires
distance-requires c =
    let size = ap length c.self.view_is in
    let same = length-paths c.self.inside.search.arrivals.items c.self.inside.search.distances.items 0 in
    omega arith

pub returns : goal.returns
returns c = c.distance.ensures
    ∙ sym (distance_found c.self.inside.search.arrivals.items c.self.inside.search.distances.items
    c.args.node)
    ∙ ap (λ paths. option_distance (get_or paths c.args.node None)) c.self.view_is
