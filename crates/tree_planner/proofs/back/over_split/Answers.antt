use Rattle.std.proofs.Common.{ℕ, ◌∙◌, ap, arith, get_or, length, subst, sym}
use borrow.Author.Count.{below_more}
use Rattle.tree_flow.specs.declared.nodes.End.{End}
use Rattle.tree_planner.specs.Ends.{HasEnd, IsBarred, IsOf}
use Rattle.tree_planner.specs.SearchingBack.{wave_of, IsInto}
use Rattle.tree_planner.proofs.Covered.{of_group}
use Rattle.tree_planner.proofs.Grouped.{all_among, first}
use Rattle.tree_planner.proofs.ImprovedBack.{at_kept, improves_trans, into_kept}
use Rattle.tree_planner.proofs.back.over_split.Goals as goal

pub over_group-requires-clause-group : goal.over_group-requires-clause-group
over_group-requires-clause-group c =
    let h = c.args.hollow.now in
    of_group (wave_of h) h.fixed.now.ends c.requires.hollow.fixed.ends c.args.split c.requires.split
    c.ends_of-ends.result c.ends_of-ends.ensures c.groups-group-items.result.now c.groups-group-items.ensures
    c.loop-group.group-index c.loop-group-test.true

pub over_group-requires-clause-at : goal.over_group-requires-clause-at
over_group-requires-clause-at c =
    at_kept c.args.search.now c.loop-group.search c.loop-group.invariant.improves c.args.node c.requires.at

pub loop-group-preserved : goal.loop-group-preserved
loop-group-preserved c =
    let h = c.args.hollow.now in
    let ends = c.ends_of-ends.result in
    let old = c.loop-group.search in
    let new = c.over_group.new.search in
    let i = c.over_group.ensures.improves in
    let at = at_kept c.args.search.now old c.loop-group.invariant.improves c.args.node c.requires.at in
    record {
      hole = c.over_group.ensures.hole ∙ c.loop-group.invariant.hole;
      searching = c.over_group.ensures.searching;
      improves = improves_trans c.args.search.now old new c.loop-group.invariant.improves i;
      over = below_more (λ (k : ℕ). (x : End) → IsOf (wave_of h).tree (IsBarred (wave_of h).tree ends.barred)
          (get_or ends.groups k first) x → IsInto h new c.args.node c.args.split x) c.loop-group.group-index
          (λ k l x of. into_kept old new i.nearer h c.args.node c.args.split x at.settled
          (c.loop-group.invariant.over k l x of))
          (subst (λ groups. (x : End) → IsOf (wave_of h).tree (IsBarred (wave_of h).tree ends.barred)
          (get_or groups c.loop-group.group-index first) x → IsInto h new c.args.node c.args.split x)
          c.groups-group-items.ensures c.over_group.ensures.over);
    }

pub returns-clause-over : goal.returns-clause-over
returns-clause-over c = λ x is.
    (let h = c.args.hollow.now in
    let ends = c.ends_of-ends.result in
    let size = ap length c.groups-group-items.ensures in
    all_among (wave_of h).tree (IsBarred (wave_of h).tree ends.barred) ends.groups first
    (λ x. IsInto h c.loop-group.search c.args.node c.args.split x)
    (λ k l. c.loop-group.invariant.over k (omega arith)) x
    (subst (λ ends. HasEnd (wave_of h).tree ends x) (sym c.ends_of-ends.ensures)
    ((c.requires.hollow.fixed.ends.each c.args.split x c.requires.split).1 is)))
