use Rattle.std.proofs.Common.{◌≡◌, ℕ, ◌-◌, ◌<◌, ◌≤◌, List, length, ap, ◌∙◌, arith, length-set}
use Rattle.std.proofs.lemmas.List.{get_or_default}
use Rattle.shortest_paths.specs.Searching.{Tables, distance_at}
use Rattle.shortest_paths.specs.ToSink.{far}
use Rattle.shortest_paths.proofs.Listing.{last_inside, forgets, lowers_one}
use Rattle.shortest_paths.proofs.search.Search.forget.Goals as goal

pub index-requires : goal.index-requires
index-requires c =
    let inside = (last_inside _ _ c.nodes.invariant.left _ _ c.in-Some.ensures.items).0 in
    omega arith

pub lower-requires-clause-node : goal.lower-requires-clause-node
lower-requires-clause-node c =
    let inside = (last_inside _ _ c.nodes.invariant.left _ _ c.in-Some.ensures.items).0 in
    let same = c.nodes.invariant.left.size in
    let size = c.nodes.invariant.size in
    omega arith

pub clear-requires-in-Some-clause-node : goal.clear-requires-in-Some-clause-node
clear-requires-in-Some-clause-node c = (last_inside _ _ c.nodes.invariant.left _ _ c.in-Some.ensures.items).0

pub clear-requires-in-Some-clause-settled : goal.clear-requires-in-Some-clause-settled
clear-requires-in-Some-clause-settled c =
    (last_inside _ _ c.nodes.invariant.left _ _ c.in-Some.ensures.items).1

pub nodes-preserved : goal.nodes-preserved
nodes-preserved c =
    let inside = (last_inside _ _ c.nodes.invariant.left _ _ c.in-Some.ensures.items).0 in
    let held : List ℕ = c.nodes.self.distances.items in
    let size = c.nodes.invariant.left.size in
    let inside_depths : c.in-Some.node < length c.nodes.potentials =
    (let same = c.nodes.invariant.size in omega arith) in
    let e = c.clear-in-Some.ensures in
    let most : c.args.total ≤ far = omega arith in
    let by : c.saturating_sub.result ≡ c.args.total - distance_at held c.in-Some.node =
    c.saturating_sub.ensures
    ∙ ap (λ d. c.args.total - d)
    (c.index.ensures ∙ get_or_default held c.in-Some.node c.index.result.now far inside) in
    record {
      left = rw e (forgets _ _ c.nodes.invariant.left c.pop.new.self.items c.in-Some.node
          c.in-Some.ensures.items);
      stack = ap (λ (t : Tables). t.stack) e ∙ c.nodes.invariant.stack;
      queue = ap (λ (t : Tables). t.queue) e ∙ c.nodes.invariant.queue;
      size = ap (λ (xs : List ℕ). length xs) c.lower.ensures ∙ length-set c.nodes.potentials c.in-Some.node _
          ∙ c.nodes.invariant.size;
      lacks = grind (arith, lowers_one);
    }
