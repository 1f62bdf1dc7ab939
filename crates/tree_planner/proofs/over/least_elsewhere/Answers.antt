use Rattle.std.proofs.Common.{ℕ, ◌≤◌, ap, arith, get_or, length, subst, sym}
use borrow.Author.Count.{below_more}
use Rattle.tree_flow.specs.declared.nodes.End.{End}
use Rattle.tree_flow.specs.State.{reach_cost}
use Rattle.tree_planner.specs.Ends.{HasEnd, IsOf}
use Rattle.tree_planner.specs.Lows.{IsSpared}
use Rattle.tree_planner.specs.Searching.{state_at, wave_of, IsOutBy}
use Rattle.tree_planner.proofs.Covered.{group_ends}
use Rattle.tree_planner.proofs.Grouped.{all_among, first}
use Rattle.tree_planner.proofs.over.least_elsewhere.Goals as goal

pub least_of-requires-clause-group : goal.least_of-requires-clause-group
least_of-requires-clause-group c =
    let g = c.args.ground.now in
    group_ends g c.requires.ground c.args.split c.requires.split c.ends_of-ends.result
    c.ends_of-ends.ensures c.groups-group-items.result.now c.groups-group-items.ensures c.loop-group.group-index
    c.loop-group-test.true

pub loop-group-preserved : goal.loop-group-preserved
loop-group-preserved c =
    let g = c.args.ground.now in
    let ends = c.ends_of-ends.result in
    record {
      most = (let before = c.loop-group.invariant.most in let less = c.min-least.ensures in omega arith);
      past = below_more (λ (k : ℕ). (x : End) → IsOf (wave_of g).tree (IsOutBy g ends)
          (get_or ends.groups k first) x → (IsSpared c.args.spared x.node → ⊥)
          → c.min-least.result ≤ reach_cost (wave_of g) (state_at g) c.args.split x)
          c.loop-group.group-index
          (λ k l x of other. (let before = c.loop-group.invariant.past k l x of other in
          let less = c.min-least.ensures in omega arith))
          (subst (λ groups. (x : End) → IsOf (wave_of g).tree (IsOutBy g ends)
          (get_or groups c.loop-group.group-index first) x → (IsSpared c.args.spared x.node → ⊥)
          → c.min-least.result ≤ reach_cost (wave_of g) (state_at g) c.args.split x)
          c.groups-group-items.ensures
          (λ x of other. (let here = c.least_of.ensures x of other in let less = c.min-least.ensures in omega arith)));
    }

pub returns-clause-least : goal.returns-clause-least
returns-clause-least c = λ x is other.
    (let g = c.args.ground.now in
    let ends = c.ends_of-ends.result in
    let size = ap length c.groups-group-items.ensures in
    all_among (wave_of g).tree (IsOutBy g ends) ends.groups first
    (λ x. (IsSpared c.args.spared x.node → ⊥) → c.loop-group.least ≤ reach_cost (wave_of g) (state_at g) c.args.split x)
    (λ k l. c.loop-group.invariant.past k (omega arith)) x
    (subst (λ ends. HasEnd (wave_of g).tree ends x) (sym c.ends_of-ends.ensures)
    ((c.requires.ground.ends.each c.args.split x c.requires.split).1 is)) other)
