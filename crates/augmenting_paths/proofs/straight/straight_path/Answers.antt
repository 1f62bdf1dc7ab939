use Rattle.std.proofs.Common.{◌<◌, List, length, ap, ◌∙◌, subst, arith}
use Rattle.flow_network.specs.Flow.{Flow}
use Rattle.flow_network.specs.declared.arcs.ArcNo.{ArcNo}
use Rattle.flow_network.specs.declared.arcs.ArcNo.TheVariants.{Forward}
use Rattle.flow_network.specs.Flows.{leaving_of}
use Rattle.augmenting_paths.proofs.DepthFirst.{own_of}
use Rattle.augmenting_paths.proofs.straight.straight_path.Goals as goal
use Rattle.augmenting_paths.proofs.straight.straight_path.Goals.{then-i-eq0, else-i-eq0}

pub arc_on-requires-clause-own : goal.arc_on-requires-clause-own
arc_on-requires-clause-own g c =
    let some = c.loop-i-test.true in
    let inside : c.if-i-eq0.place < length c.leaving-arcs.result.now = elim c.if-i-eq0.branch [
      | then-i-eq0 w ↦ (let is = w.place-is in omega arith)
      | else-i-eq0 w ↦ (let is = w.place-is in omega arith)
    ] in
    rw (c.leaving-arcs.ensures, ap (λ (f : Flow g.row.L.Denot). f.arcs) c.new-meter.ensures.network)
    (own_of _ _ c.if-i-eq0.place (Forward 0) (subst (λ (xs : List ArcNo). c.if-i-eq0.place < length xs)
    (c.leaving-arcs.ensures
    ∙ ap (λ (f : Flow g.row.L.Denot). leaving_of f.arcs c.args.query.now.start) c.new-meter.ensures.network)
    inside))
