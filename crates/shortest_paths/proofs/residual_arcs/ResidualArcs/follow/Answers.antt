use Rattle.std.proofs.Common.{◌≡◌, ◌+◌, suc, List, ◌∷◌, length, get_or, drop, ap, ◌∙◌, subst, arith}
use Rattle.std.proofs.Math.Seq.{drop-cons}
use Rattle.flow_network.specs.declared.arcs.ArcNo.{ArcNo}
use Rattle.flow_network.specs.declared.arcs.ArcNo.TheVariants.{Forward}
use Rattle.shortest_paths.specs.Lists.{ArcLists}
use Rattle.shortest_paths.specs.Matched.{IsFollowing}
use Rattle.shortest_paths.proofs.residual_arcs.ResidualArcs.follow.Goals as goal

pub carried-flow-requires : goal.carried-flow-requires
carried-flow-requires g c =
    c.requires.path c.loop-arc.arc-index (Forward 0) c.loop-arc-test.true

pub follow_arc-requires-clause-from : goal.follow_arc-requires-clause-from
follow_arc-requires-clause-from g c =
    let lists = ap (λ (w : ArcLists). length w.is_source) c.loop-arc.invariant.lists in
    omega (arith, c.carried-flow.ensures.from, c.requires.sources)

pub follow_arc-requires-clause-to : goal.follow_arc-requires-clause-to
follow_arc-requires-clause-to g c =
    omega (arith, c.carried-flow.ensures.to, c.loop-arc.invariant.size, c.requires.matched)

pub loop-arc-preserved : goal.loop-arc-preserved
loop-arc-preserved g c =
    let here = c.requires.path c.loop-arc.arc-index (Forward 0) c.loop-arc-test.true in
    let more : suc c.loop-arc.arc-index ≡ c.loop-arc.arc-index + 1 = omega arith in
    let rest : drop c.loop-arc.arc-index c.args.path.now
    ≡ get_or c.args.path.now c.loop-arc.arc-index (Forward 0) ∷ drop (c.loop-arc.arc-index
    + 1) c.args.path.now =
    drop-cons c.args.path.now c.loop-arc.arc-index (Forward 0) c.loop-arc-test.true
    ∙ ap (λ n. get_or c.args.path.now c.loop-arc.arc-index (Forward 0) ∷ drop n c.args.path.now) more in
    record {
      lists = c.follow_arc.ensures.lists
          ∙ ap (λ (w : ArcLists). record w { matched = c.follow_arc.new.self.matched })
          c.loop-arc.invariant.lists;
      size = c.follow_arc.ensures.size ∙ c.loop-arc.invariant.size;
      following = λ flows e once t. c.in_ok-follow_arc.ensures.following c.args.network.now.arcs
          c.args.network.now.flows (drop (c.loop-arc.arc-index + 1) c.args.path.now) here
          c.carried-flow.ensures.arc c.carried-flow.ensures.units
          (subst (λ (path : List ArcNo). IsFollowing c.args.network.now.arcs c.args.network.now.flows path
          c.loop-arc.self)
          rest (c.loop-arc.invariant.following flows e once t));
    }
