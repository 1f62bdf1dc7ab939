use Rattle.std.proofs.Common.{ℕ, ◌≤◌, ap, arith, get_or, length, subst, sym}
use borrow.Author.Count.{below_more}
use Rattle.tree_flow.specs.declared.nodes.End.{End}
use Rattle.tree_flow.specs.State.{reach_cost}
use Rattle.tree_planner.specs.Ends.{HasEnd, IsOf}
use Rattle.tree_planner.specs.Searching.{state_at, wave_of, IsOutBy}
use Rattle.tree_planner.proofs.Grouped.{all_among, first}
use Rattle.tree_planner.proofs.Covered.{group_ends}
use Rattle.tree_planner.proofs.choice.cheapest_end.Goals as goal

pub best_of-best-requires-clause-group : goal.best_of-best-requires-clause-group
best_of-best-requires-clause-group c =
    group_ends c.args.ground.now c.requires.ground c.args.split c.requires.split c.ends_of-ends.result
    c.ends_of-ends.ensures c.groups-group-items.result.now c.groups-group-items.ensures c.loop-group.group-index
    c.loop-group-test.true

pub loop-group-preserved : goal.loop-group-preserved
loop-group-preserved c =
    let g = c.args.ground.now in
    record {
      cheapest = c.best_of-best.ensures.cheapest;
      ends = below_more (λ (k : ℕ). (x : End)
          → IsOf (wave_of g).tree (IsOutBy g c.ends_of-ends.result)
          (get_or c.ends_of-ends.result.groups k first) x
          → c.best_of-best.result.least ≤ reach_cost (wave_of g) (state_at g) c.args.split x) c.loop-group.group-index
          (λ k l x of. (let before = c.loop-group.invariant.ends k l x of in
          let less = c.best_of-best.ensures.before in omega arith))
          (subst (λ groups. (x : End) → IsOf (wave_of g).tree (IsOutBy g c.ends_of-ends.result)
          (get_or groups c.loop-group.group-index first) x
          → c.best_of-best.result.least ≤ reach_cost (wave_of g) (state_at g) c.args.split x)
          c.groups-group-items.ensures c.best_of-best.ensures.better);
    }

pub returns-clause-ends : goal.returns-clause-ends
returns-clause-ends c = λ x is.
    (let g = c.args.ground.now in
    let ends = c.ends_of-ends.result in
    all_among (wave_of g).tree (IsOutBy g ends) ends.groups first
    (λ x. c.loop-group.best.least ≤ reach_cost (wave_of g) (state_at g) c.args.split x)
    (λ k l. (let size = ap length c.groups-group-items.ensures in c.loop-group.invariant.ends k (omega arith))) x
    (subst (λ ends. HasEnd (wave_of g).tree ends x) (sym c.ends_of-ends.ensures)
    ((c.requires.ground.ends.each c.args.split x c.requires.split).1 is)))
