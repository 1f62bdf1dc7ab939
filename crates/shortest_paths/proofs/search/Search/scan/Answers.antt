use Rattle.std.proofs.Common.{◌≡◌, ◌+◌, ◌-◌, ◌<◌, List, length, take, ap, ◌∙◌, sym, subst, arith, refl}
use Rattle.std.proofs.Math.Seq.{take-length}
use Rattle.std.proofs.lemmas.Bool.{false≢true}
use Rattle.flow_network.specs.declared.arcs.ArcNo.{ArcNo}
use Rattle.flow_network.specs.Flow.{Flow}
use Rattle.flow_network.specs.Flows.{leaving_of}
use Rattle.flow_network.proofs.Listed.{leaving_at}
use Rattle.shortest_paths.specs.Lists.{source_at}
use Rattle.shortest_paths.proofs.Settled.{scanned}
use Rattle.shortest_paths.proofs.Searching.{entered_inside, few_so_far, source_leads_on}
use Rattle.shortest_paths.proofs.Looking.{next_arc_of}
use Rattle.shortest_paths.proofs.search.Search.scan.Goals as goal

pub loop-i-init : goal.loop-i-init
loop-i-init g c =
    let s = c.requires.state in
    let xs : List ArcNo = leaving_of c.args.meter.now.network.arcs c.args.node in
    let none : length xs - 0 ≡ length xs = omega arith in
    let all : take (length xs - 0) xs ≡ xs = ap (λ n. take n xs) none ∙ take-length xs in
    let apart : c.args.node ≡ c.args.query.now.sink → ⊥ = λ e. false≢true (sym s.may.sink_apart
    ∙ ap (source_at c.args.query.now.lists.now) (sym e) ∙ c.requires.source) in
    record {
      network = refl;
      state = record {
        may = s.may;
        now = rw all (scanned _ _ _ _ _ _ _ s.now s.may.lists (entered_inside s.now) apart
            refl);
      };
      counted = omega arith;
      spends = omega arith;
    }

pub pass-requires-clause-leaves : goal.pass-requires-clause-leaves
pass-requires-clause-leaves g c = grind (arith, leaving_at)

pub pass-requires-clause-no_source : goal.pass-requires-clause-no_source
pass-requires-clause-no_source g c = grind (arith, leaving_at, source_leads_on)

pub pass-requires-clause-state : goal.pass-requires-clause-state
pass-requires-clause-state g c =
    let same = c.leaving-arcs.ensures in
    let xs : List ArcNo = leaving_of c.args.meter.now.network.arcs c.args.node in
    let inside : c.loop-i.i < length xs = subst (λ ys. c.loop-i.i < length ys) same c.loop-i-test.true in (
      take (length xs - (c.loop-i.i + 1)) xs,
      rw same (next_arc_of xs c.loop-i.i inside c.loop-i.invariant.state),
    )

pub loop-i-preserved : goal.loop-i-preserved
loop-i-preserved g c =
    let same = c.leaving-arcs.ensures in
    let xs : List ArcNo = leaving_of c.args.meter.now.network.arcs c.args.node in
    let inside : c.loop-i.i < length xs = subst (λ ys. c.loop-i.i < length ys) same c.loop-i-test.true in
    let goes = rw (c.if-branch.false, same) at c.in_ok-pass.ensures.goes in
    let more = c.in_ok-pass.ensures.spends in
    record {
      network = c.pass.ensures.network ∙ c.loop-i.invariant.network;
      state = goes (take (length xs - (c.loop-i.i + 1)) xs)
          (next_arc_of xs c.loop-i.i inside c.loop-i.invariant.state);
      counted = (let old = c.loop-i.invariant.counted in let more = c.pass.ensures.counted in omega arith);
      spends = (let old = c.loop-i.invariant.spends in omega arith);
    }

pub returns-then-branch-clause-goes : goal.returns-then-branch-clause-goes
returns-then-branch-clause-goes g c =
    let same = c.leaving-arcs.ensures in
    let xs : List ArcNo = leaving_of c.args.meter.now.network.arcs c.args.node in
    let inside : c.loop-i.i < length xs = subst (λ ys. c.loop-i.i < length ys) same c.loop-i-test.true in
    let goes = rw (c.if-branch.true, same) at c.in_ok-pass.ensures.goes in
    goes (take (length xs - (c.loop-i.i + 1)) xs)
    (next_arc_of xs c.loop-i.i inside c.loop-i.invariant.state)

pub returns-clause-steps : goal.returns-clause-steps
returns-clause-steps g c =
    let few = few_so_far c.loop-i.invariant.state.now in
    let same = ap (λ (f : Flow g.row.L.Denot). length f.arcs) c.loop-i.invariant.network in
    omega arith
