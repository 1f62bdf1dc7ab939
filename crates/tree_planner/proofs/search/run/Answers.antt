use Rattle.std.proofs.Common.{◌<◌, ◌∙◌, arith, sym, subst, inl, inr}
use Rattle.std.proofs.lemmas.Bool.{cases_lt}
use Rattle.tree_planner.specs.Searching.{order_at, HasLookedFrom}
use Rattle.tree_planner.proofs.Counted.{open_less}
use Rattle.tree_planner.proofs.Floors.{open_same, raised_improves}
use Rattle.tree_planner.proofs.Improved.{looked_kept, same_order, started_kept}
use Rattle.tree_flow.proofs.Moved.{same_or_not}
use Rattle.tree_planner.proofs.search.run.Goals as goal

pub loop-node-smaller : goal.loop-node-smaller
loop-node-smaller c =
    let settles = c.look_from.ensures.settles in
    let here = settles.here in
    let nearest = c.in-Some.ensures.node in
    let mid = c.nearest.new.search in
    let same = open_same c.loop-node.search mid c.args.ground.now.nodes.now c.in-Some.ensures.rest in
    let less = open_less mid c.look_from.new.search c.args.ground.now.nodes.now c.in-Some.node
    (c.requires.ground.nodes.each c.in-Some.node nearest.known) nearest.fresh (omega arith) settles.others in
    omega arith

pub loop-node-preserved : goal.loop-node-preserved
loop-node-preserved c =
    let g = c.args.ground.now in
    let old = c.loop-node.search in
    let mid = c.nearest.new.search in
    let raised = raised_improves old mid c.in-Some.ensures.rest in
    let new = c.look_from.new.search in
    let settles = c.look_from.ensures.settles in
    let here = settles.here in
    let nearest = c.in-Some.ensures.node in
    let same = open_same old mid g.nodes.now c.in-Some.ensures.rest in
    let less = open_less mid new g.nodes.now c.in-Some.node
    (c.requires.ground.nodes.each c.in-Some.node nearest.known) nearest.fresh (omega arith) settles.others in
    record {
      split = settles.nearer.split ∙ raised.nearer.split ∙ c.loop-node.invariant.split;
      searching = c.look_from.ensures.searching;
      started = started_kept mid new settles.nearer g
          (started_kept old mid raised.nearer g c.loop-node.invariant.started);
      looked = λ u some. elim (same_or_not u c.in-Some.node) [
        | inl e ↦ subst (λ u. HasLookedFrom g new u) (sym e) c.look_from.ensures.looked
        | inr n ↦
            (let same = settles.others u n in
            let floors = same_order old mid raised u in
            let some_mid : 0 < order_at mid u = omega arith in
            let some_old : 0 < order_at old u = omega arith in
            looked_kept mid new settles.nearer g u some_mid
            (looked_kept old mid raised.nearer g u some_old (c.loop-node.invariant.looked u some_old)))
      ];
      few =
          (let looked = settles.looked in
          let before = raised.looked in
          let few = c.loop-node.invariant.few in
          omega arith);
    }

pub returns : goal.returns
returns c =
    let g = c.args.ground.now in
    let old = c.loop-node.search in
    let new = c.nearest.new.search in
    let raised = raised_improves old new c.in_default.ensures.rest in
    let i = c.loop-node.invariant in
    record {
      split = raised.nearer.split ∙ i.split;
      searching = c.in_default.ensures.searching;
      started = started_kept old new raised.nearer g i.started;
      looked = λ u near. elim (cases_lt 0 (order_at new u)) [
        | inl some ↦
            (let same = same_order old new raised u in
            let before : 0 < order_at old u = omega arith in
            looked_kept old new raised.nearer g u before (i.looked u before))
        | inr none ↦ absurd (let past = c.in_default.ensures.node u (omega arith) in omega arith)
      ];
      past = c.in_default.ensures.node;
      few = (let few = i.few in let looked = raised.looked in omega arith);
    }
