use Rattle.std.proofs.Common.{ℕ, ◌∙◌, arith, ap, get_or, length, sym, subst}
use borrow.Author.Count.{below_more}
use Rattle.tree_flow.specs.declared.nodes.End.{End}
use Rattle.tree_flow.specs.Nodes.{IsEnd}
use Rattle.tree_planner.specs.Ends.{ends_at, HasEnd, IsOf}
use Rattle.tree_planner.specs.Searching.{wave_of, AreOf, IsOutBy, IsStartedAt}
use Rattle.tree_planner.proofs.Covered.{group_ends, least_kept}
use Rattle.tree_planner.proofs.Grouped.{all_among, first}
use Rattle.tree_planner.proofs.Improved.{improves_trans, start_kept}
use Rattle.tree_planner.proofs.search.start.Goals as goal

pub start_group-requires-clause-ends : goal.start_group-requires-clause-ends
start_group-requires-clause-ends c =
    let g = c.args.ground.now in
    c.ends_of-ends.ensures ∙ ap (λ s. ends_at g.ends.now s) (sym c.loop-group.invariant.improves.nearer.split)

pub start_group-requires-clause-group : goal.start_group-requires-clause-group
start_group-requires-clause-group c =
    let g = c.args.ground.now in
    let ends = c.ends_of-ends.result in
    subst (λ s. AreOf g s (IsOutBy g ends) (get_or c.groups-group-items.result.now c.loop-group.group-index first))
    (sym c.loop-group.invariant.improves.nearer.split)
    (group_ends g c.requires.ground c.args.search.now.split c.requires.split ends c.ends_of-ends.ensures
    c.groups-group-items.result.now c.groups-group-items.ensures c.loop-group.group-index c.loop-group-test.true)

pub start_group-requires-clause-least : goal.start_group-requires-clause-least
start_group-requires-clause-least c =
    least_kept c.args.ground.now c.args.search.now c.loop-group.search c.loop-group.invariant.improves c.requires.least

pub loop-group-preserved : goal.loop-group-preserved
loop-group-preserved c =
    let g = c.args.ground.now in
    let old = c.loop-group.search in
    let new = c.start_group.new.search in
    let i = c.start_group.ensures.improves in
    let ends = c.ends_of-ends.result in
    record {
      searching = c.start_group.ensures.searching;
      improves = improves_trans c.args.search.now old new c.loop-group.invariant.improves i;
      started = below_more (λ (k : ℕ). (x : End) → IsOf (wave_of g).tree (IsOutBy g ends)
          (get_or ends.groups k first) x → IsStartedAt g new x) c.loop-group.group-index
          (λ k l x of. start_kept old new i.nearer g x (c.loop-group.invariant.started k l x of))
          (subst (λ groups. (x : End) → IsOf (wave_of g).tree (IsOutBy g ends)
          (get_or groups c.loop-group.group-index first) x → IsStartedAt g new x)
          c.groups-group-items.ensures c.start_group.ensures.started);
    }

pub returns-clause-started : goal.returns-clause-started
returns-clause-started c = λ x is.
    (let g = c.args.ground.now in
    let ends = c.ends_of-ends.result in
    let size = ap length c.groups-group-items.ensures in
    all_among (wave_of g).tree (IsOutBy g ends) ends.groups first (λ x. IsStartedAt g c.loop-group.search x)
    (λ k l. c.loop-group.invariant.started k (omega arith)) x
    (subst (λ ends. HasEnd (wave_of g).tree ends x) (sym c.ends_of-ends.ensures)
    ((c.requires.ground.ends.each c.args.search.now.split x c.requires.split).1
    (subst (λ s. IsEnd (wave_of g) s x) c.loop-group.invariant.improves.nearer.split is))))
