use Rattle.std.proofs.Common.{◌+◌, [], length, ap, sym, subst, arith}
use Rattle.std.proofs.lemmas.Int.{ints}
use Rattle.std.proofs.lemmas.List.Sorted.{length_permutation}
use Rattle.shortest_paths.specs.Searching.{IsSearching, Tables}
use Rattle.shortest_paths.specs.Search.{problem}
use Rattle.shortest_paths.proofs.Searching.{no_way}
use Rattle.shortest_paths.proofs.Looking.{is_open, may_look, node_inside, few_arcs, look_counts, seen_known, seen_near}
use Rattle.shortest_paths.proofs.Looking.{seen_far}
use Rattle.shortest_paths.proofs.search.Search.look.Goals as goal

pub look-look-requires-clause-count : goal.look-look-requires-clause-count
look-look-requires-clause-count g c =
    (may_look c.requires.state.1.now c.requires.state.1.may.priced).0

pub look-look-requires-clause-listed : goal.look-look-requires-clause-listed
look-look-requires-clause-listed g c =
    (may_look c.requires.state.1.now c.requires.state.1.may.priced).3

pub reduced-cost-requires-clause-node : goal.reduced-cost-requires-clause-node
reduced-cost-requires-clause-node g c =
    node_inside c.requires.state.1.now c.requires.state.1.may.priced c.requires.leaves

pub index-requires-2 : goal.index-requires-2
index-requires-2 g c =
    let inside = node_inside c.requires.state.1.now c.requires.state.1.may.priced c.requires.leaves in
    let size = c.requires.state.1.now.reached.arrivals_size in
    omega arith

pub returns-then-look-eq0-clause-goes : goal.returns-then-look-eq0-clause-goes
returns-then-look-eq0-clause-goes g c = λ rest s.
    rw c.look-look.ensures.counted (record {
      may = s.may;
      now = no_way s.now (λ r. absurd (let room = r.room in
          let is = c.look-look.ensures.residual in let none = c.if-look-eq0.true in omega arith));
    })

pub returns-then-look-eq0-clause-steps : goal.returns-then-look-eq0-clause-steps
returns-then-look-eq0-clause-steps g c =
    look_counts c.requires.state.1 c.look-look.ensures.counted

pub returns-then-distance-index-clause-steps : goal.returns-then-distance-index-clause-steps
returns-then-distance-index-clause-steps g c =
    look_counts c.requires.state.1 c.look-look.ensures.counted

pub returns-in_err-reach-clause-steps : goal.returns-in_err-reach-clause-steps
returns-in_err-reach-clause-steps g c =
    look_counts c.requires.state.1 c.look-look.ensures.counted

pub returns-then-cost-eq0-clause-steps : goal.returns-then-cost-eq0-clause-steps
returns-then-cost-eq0-clause-steps g c =
    look_counts c.requires.state.1 c.look-look.ensures.counted

pub returns-in_err-put-clause-steps : goal.returns-in_err-put-clause-steps
returns-in_err-put-clause-steps g c =
    look_counts c.requires.state.1 c.look-look.ensures.counted

pub returns-clause-steps : goal.returns-clause-steps
returns-clause-steps g c = look_counts c.requires.state.1 c.look-look.ensures.counted

pub reduced-cost-requires-clause-to : goal.reduced-cost-requires-clause-to
reduced-cost-requires-clause-to g c =
    let o = is_open c.requires.state.1 c.requires.leaves c.look-look.ensures.to
    c.look-look.ensures.residual c.look-look.ensures.cost c.if-look-eq0.false in
    o.inside

pub reduced-cost-requires-clause-low : goal.reduced-cost-requires-clause-low
reduced-cost-requires-clause-low g c =
    let o = is_open c.requires.state.1 c.requires.leaves c.look-look.ensures.to
    c.look-look.ensures.residual c.look-look.ensures.cost c.if-look-eq0.false in
    o.low

pub reduced-cost-requires-clause-high : goal.reduced-cost-requires-clause-high
reduced-cost-requires-clause-high g c =
    let o = is_open c.requires.state.1 c.requires.leaves c.look-look.ensures.to
    c.look-look.ensures.residual c.look-look.ensures.cost c.if-look-eq0.false in
    o.high

pub reduced-cost-requires-clause-reduced : goal.reduced-cost-requires-clause-reduced
reduced-cost-requires-clause-reduced g c =
    let o = is_open c.requires.state.1 c.requires.leaves c.look-look.ensures.to
    c.look-look.ensures.residual c.look-look.ensures.cost c.if-look-eq0.false in
    o.reduced

pub overflow_add-distance : goal.overflow_add-distance
overflow_add-distance g c =
    let o = is_open c.requires.state.1 c.requires.leaves c.look-look.ensures.to
    c.look-look.ensures.residual c.look-look.ensures.cost c.if-look-eq0.false in
    let low = o.low in
    let high = o.high in
    let level = (may_look c.requires.state.1.now c.requires.state.1.may.priced).1 in
    let deep = c.requires.state.1.may.priced.deep c.look-look.result.to in
    let is = c.reduced-cost.ensures in
    omega (arith, ints)

pub index-requires : goal.index-requires
index-requires g c =
    let o = is_open c.requires.state.1 c.requires.leaves c.look-look.ensures.to
    c.look-look.ensures.residual c.look-look.ensures.cost c.if-look-eq0.false in
    let inside = o.inside in
    let size = c.requires.state.1.now.reached.size in
    omega arith

pub overflow_add-arcs : goal.overflow_add-arcs
overflow_add-arcs g c =
    let few = few_arcs c.requires.state.1.now c.requires.state.1.may.priced
    c.requires.leaves c.index-2.ensures in
    omega arith

pub reach-requires-clause-distances : goal.reach-requires-clause-distances
reach-requires-clause-distances g c =
    let o = is_open c.requires.state.1 c.requires.leaves c.look-look.ensures.to
    c.look-look.ensures.residual c.look-look.ensures.cost c.if-look-eq0.false in
    let inside = o.inside in
    let size = c.requires.state.1.now.reached.size in
    omega arith

pub reach-requires-clause-arrivals : goal.reach-requires-clause-arrivals
reach-requires-clause-arrivals g c =
    let o = is_open c.requires.state.1 c.requires.leaves c.look-look.ensures.to
    c.look-look.ensures.residual c.look-look.ensures.cost c.if-look-eq0.false in
    let inside = o.inside in
    let size = c.requires.state.1.now.reached.arrivals_size in
    omega arith

pub returns-then-distance-index-clause-goes : goal.returns-then-distance-index-clause-goes
returns-then-distance-index-clause-goes g c = λ rest s.
    let o = is_open s c.requires.leaves c.look-look.ensures.to
    c.look-look.ensures.residual c.look-look.ensures.cost c.if-look-eq0.false in
    rw c.look-look.ensures.counted (record {
      may = s.may;
      now = seen_known s.now s.may.priced o.residual c.requires.leaves c.look-look.ensures.to
          (rw c.look-look.ensures.cost at c.reduced-cost.ensures) c.index.ensures c.if-distance-index.true;
    })

pub returns-then-cost-eq0-clause-goes : goal.returns-then-cost-eq0-clause-goes
returns-then-cost-eq0-clause-goes g c = λ rest s.
    let o = is_open s c.requires.leaves c.look-look.ensures.to
    c.look-look.ensures.residual c.look-look.ensures.cost c.if-look-eq0.false in
    rw c.look-look.ensures.counted (record {
      may = s.may;
      now = rw c.in_ok-reach.ensures.tables (seen_near s.now s.may.priced o.residual c.requires.leaves
          c.look-look.ensures.to (rw c.look-look.ensures.cost at c.reduced-cost.ensures) c.index.ensures
          c.index-2.result.now c.index-2.ensures c.if-distance-index.false c.reach.new.self.reached.items
          (c.in_ok-reach.ensures.listed s.now.listed) c.if-cost-eq0.true);
    })

pub returns-clause-goes : goal.returns-clause-goes
returns-clause-goes g c = λ rest s.
    let o = is_open s c.requires.leaves c.look-look.ensures.to
    c.look-look.ensures.residual c.look-look.ensures.cost c.if-look-eq0.false in
    let e = c.in_ok-reach.ensures.tables in
    let more = rw (ap (λ (t : Tables). t.queue) e) at c.in_ok-put.ensures in
    let after = seen_far s.now s.may.priced o.residual c.requires.leaves c.look-look.ensures.to
    (rw c.look-look.ensures.cost at c.reduced-cost.ensures) c.index.ensures c.index-2.result.now
    c.index-2.ensures c.if-distance-index.false c.put.new.self c.reach.new.self.reached.items
    (c.in_ok-reach.ensures.listed s.now.listed) c.if-cost-eq0.false more in
    rw c.look-look.ensures.counted (record {
      may = s.may;
      now = subst (λ (t : Tables). IsSearching (problem c.args.meter.now.network c.args.query.now)
          (length c.args.query.now.potentials.now) c.args.level (c.args.meter.now.count + 1) [] rest
          (record t { queue = c.put.new.self })) (sym e) after;
    })

pub returns-clause-queue : goal.returns-clause-queue
returns-clause-queue g c =
    let grows = length_permutation _ _ c.in_ok-put.ensures in
    let same = ap (λ (t : Tables). length t.queue) c.in_ok-reach.ensures.tables in
    omega arith
