use Rattle.std.proofs.Common.{◌≡◌, ◌<◌, List, inl, inr, length, get_or, take, ap, sym, ◌∙◌, subst, arith, Contains}
use Rattle.std.proofs.Math.Seq.{take-length}
use Rattle.std.proofs.lemmas.List.{take_more}
use Rattle.std.proofs.lemmas.List.Elements.{Contains-push_cases}
use Rattle.flow_network.specs.Flow.{Flow}
use Rattle.flow_network.specs.declared.arcs.ArcNo.{ArcNo}
use Rattle.flow_network.specs.declared.arcs.ArcNo.TheVariants.{Forward}
use Rattle.flow_network.specs.Flows.{leaving_of}
use Rattle.flow_network.proofs.Listed.{each_arc}
use Rattle.augmenting_paths.proofs.DepthFirst.{own_of}
use Rattle.augmenting_paths.proofs.augment.least_depth.Goals as goal

pub lesser_depth-least-requires-clause-listed : goal.lesser_depth-least-requires-clause-listed
lesser_depth-least-requires-clause-listed g c =
    let same : c.leaving-arc-items.result.now ≡ leaving_of c.args.network.now.arcs c.args.node =
    c.leaving-arc-items.ensures
    ∙ ap (λ (f : Flow g.row.L.Denot). leaving_of f.arcs c.args.node) c.new-meter.ensures.network in
    rw (c.all_arcs.ensures.value, same) (own_of c.args.network.now.arcs c.args.node c.loop-arc.arc-index
    (Forward 0) (rw same at c.loop-arc-test.true)).listed

pub loop-arc-preserved : goal.loop-arc-preserved
loop-arc-preserved g c = λ k i room.
    let same : c.leaving-arc-items.result.now ≡ leaving_of c.args.network.now.arcs c.args.node =
    c.leaving-arc-items.ensures
    ∙ ap (λ (f : Flow g.row.L.Denot). leaving_of f.arcs c.args.node) c.new-meter.ensures.network in
    let xs : List ArcNo = leaving_of c.args.network.now.arcs c.args.node in
    let inside : c.loop-arc.arc-index < length xs = rw same at c.loop-arc-test.true in
    let way = rw c.all_arcs.ensures.value at c.lesser_depth-least.ensures.arc in
    elim (Contains-push_cases (take c.loop-arc.arc-index xs) (get_or xs c.loop-arc.arc-index (Forward 0))
    (Forward k) (rw (take_more xs c.loop-arc.arc-index (Forward 0) inside) at i)) [
      | inl old ↦ (let most = c.loop-arc.invariant k old room in
          let less = c.lesser_depth-least.ensures.known in omega arith)
      | inr e ↦ way k (rw same e) room
    ]

pub returns : goal.returns
returns g c = λ k l e room.
    let same : c.leaving-arc-items.result.now ≡ leaving_of c.args.network.now.arcs c.args.node =
    c.leaving-arc-items.ensures
    ∙ ap (λ (f : Flow g.row.L.Denot). leaving_of f.arcs c.args.node) c.new-meter.ensures.network in
    let size = ap (λ (xs : List ArcNo). length xs) same in
    let past = c.loop-arc-test.false in
    let most = c.loop-arc.auto.arc-index-end in
    let end : c.loop-arc.arc-index ≡ length (leaving_of c.args.network.now.arcs c.args.node) = omega arith in
    let all : take c.loop-arc.arc-index (leaving_of c.args.network.now.arcs c.args.node)
    ≡ leaving_of c.args.network.now.arcs c.args.node =
    ap (λ n. take n (leaving_of c.args.network.now.arcs c.args.node)) end
    ∙ take-length (leaving_of c.args.network.now.arcs c.args.node) in
    c.loop-arc.invariant k (subst (λ (xs : List ArcNo). Contains xs (Forward k)) (sym all)
    ((each_arc c.args.network.now.arcs c.args.node (Forward k)).0 l e)) room
