use Rattle.std.proofs.Common.{inl, inr, subst, sym}
use Rattle.tree_planner.specs.Searching.{IsNearest}
use Rattle.tree_planner.proofs.Floors.{floors_trans, raised_kept, raised_nearest, raised_rest}
use Rattle.tree_planner.proofs.nearest.nearest.Goals as goal
use Rattle.tree_planner.proofs.nearest.nearest.Goals.{then-best-low-via-then-best-low}
use Rattle.tree_planner.proofs.nearest.nearest.Goals.{then-best-low-via-else-best-low+then-best-low-2}

pub loop-low-preserved : goal.loop-low-preserved
loop-low-preserved c =
    let g = c.args.ground.now in
    let old = c.loop-low.search in
    let row = c.raise.new.self in
    let best = c.nearest_in-best in
    let rise = c.raise.ensures in
    let i = c.loop-low.invariant in
    record {
      rest = floors_trans c.args.search.now old (record old { reached = row }) i.rest
          (raised_rest g old row c.in-Some.low best.result rise.rest rise.floors c.in-Some.ensures
          best.ensures.fresh best.ensures.least i.searching);
      searching = raised_kept g old row c.in-Some.low best.result rise.rest rise.floors c.in-Some.ensures
          best.ensures.fresh best.ensures.least i.searching;
    }

pub returns-then-best-low-clause-searching : goal.returns-then-best-low-clause-searching
returns-then-best-low-clause-searching c =
    let best = c.nearest_in-best in
    let rise = c.raise.ensures in
    raised_kept c.args.ground.now c.loop-low.search c.raise.new.self c.in-Some.low best.result rise.rest
    rise.floors c.in-Some.ensures best.ensures.fresh best.ensures.least c.loop-low.invariant.searching

pub returns-then-best-low-clause-node : goal.returns-then-best-low-clause-node
returns-then-best-low-clause-node c =
    let g = c.args.ground.now in
    let old = c.loop-low.search in
    let row = c.raise.new.self in
    let best = c.nearest_in-best in
    let rise = c.raise.ensures in
    subst (λ v. IsNearest g (record old { reached = row }) v) (sym c.at.ensures)
    (raised_nearest g old row c.in-Some.low best.result rise.rest rise.floors c.in-Some.ensures
    best.ensures.fresh best.ensures.least c.loop-low.invariant.searching c.requires.ground (elim c.then-best-low.branch [
      | then-best-low-via-then-best-low w ↦ inl w.if-best-low.true
      | then-best-low-via-else-best-low+then-best-low-2 w ↦ inr w.if-best-low-2.true
    ]))
