use Rattle.std.proofs.Common.{false, length, ap, sym, ◌∙◌, arith}
use Rattle.std.proofs.lemmas.List.{get_or_default}
use Rattle.std.proofs.lemmas.List.Sorted.{length_permutation}
use Rattle.flow_network.specs.Flow.{Flow}
use Rattle.shortest_paths.proofs.Searching.{entry_inside, passed, advanced, few_so_far}
use Rattle.shortest_paths.proofs.search.Search.empty_queue.Goals as goal

pub index-requires : goal.index-requires
index-requires g c =
    let s = c.nodes.invariant.state.1 in
    let inside = entry_inside s.now c.in-Some.ensures.taken in
    let size = s.now.reached.settled_size in
    omega arith

pub settle-requires : goal.settle-requires
settle-requires g c =
    let s = c.nodes.invariant.state.1 in
    let inside = entry_inside s.now c.in-Some.ensures.taken in
    let mark = c.index.ensures ∙ get_or_default c.nodes.self.settled.items c.in-Some.node c.index.result.now
    false (let size = s.now.reached.settled_size in omega arith) in
    record {
      state = record {
        may = s.may;
        now = advanced s.now c.in-Some.ensures.taken (sym mark ∙ c.if-index.false)
            c.in-Some.ensures.nearest c.nodes.invariant.empty;
      };
    }

pub nodes-smaller-then-index : goal.nodes-smaller-then-index
nodes-smaller-then-index g c = grind (arith, length_permutation)

pub nodes-preserved-then-index : goal.nodes-preserved-then-index
nodes-preserved-then-index g c =
    let s = c.nodes.invariant.state.1 in
    let inside = entry_inside s.now c.in-Some.ensures.taken in
    let mark = c.index.ensures ∙ get_or_default c.nodes.self.settled.items c.in-Some.node c.index.result.now
    false (let size = s.now.reached.settled_size in omega arith) in
    record {
      network = c.nodes.invariant.network;
      empty = c.nodes.invariant.empty;
      state = (
        c.nodes.invariant.state.0,
        record {
          may = s.may;
          now = passed s.now c.in-Some.ensures.taken (sym mark ∙ c.if-index.true);
        },
      );
    }

pub nodes-smaller : goal.nodes-smaller
nodes-smaller g c = grind (arith, few_so_far, length_permutation)

pub returns-clause-steps : goal.returns-clause-steps
returns-clause-steps g c =
    let few = few_so_far c.nodes.invariant.state.1.now in
    let network = ap (λ (f : Flow g.row.L.Denot). length f.arcs) c.nodes.invariant.network in
    omega arith
