use Rattle.std.proofs.Common.{ℕ, ◌+◌, ◌≤◌, ◌∙◌, ap, arith, get_or, length, subst, sym}
use borrow.Author.Count.{below_more}
use Rattle.tree_flow.specs.declared.nodes.End.{End}
use Rattle.tree_planner.specs.Ends.{HasEnd, IsOf}
use Rattle.tree_flow.specs.State.{reach_cost}
use Rattle.tree_planner.specs.Searching.{far_at, state_at, wave_of, worth_at, IsOutBy, IsOverTo}
use Rattle.tree_planner.proofs.Improved.{at_kept, improves_trans, over_kept}
use Rattle.tree_planner.proofs.Covered.{group_ends, leaving_kept}
use Rattle.tree_planner.proofs.Grouped.{all_among, first}
use Rattle.tree_planner.proofs.Looked.{stands_same}
use Rattle.tree_planner.proofs.over.hand_over.Goals as goal

pub cost_at-spent-requires-clause-is_end : goal.cost_at-spent-requires-clause-is_end
cost_at-spent-requires-clause-is_end c =
    c.requires.ground.kept.cheapest.ends c.args.split c.args.end c.requires.stands

pub over_group-requires-clause-group : goal.over_group-requires-clause-group
over_group-requires-clause-group c =
    let g = c.args.ground.now in
    group_ends g c.requires.ground c.args.split c.loop-group.invariant.leaving.known c.ends_of-ends.result
    c.ends_of-ends.ensures c.groups-group-items.result.now c.groups-group-items.ensures c.loop-group.group-index
    c.loop-group-test.true

pub loop-group-init : goal.loop-group-init
loop-group-init c =
    let g = c.args.ground.now in
    let old = c.args.search.now in
    let new = c.arrive.new.self in
    let i = c.arrive.ensures.improves in
    let at = c.requires.at in
    let same = i.nearer.settled c.args.end.node at.settled in
    let far = c.far_of-far.ensures in
    let cost = c.cost_at-spent.ensures.cost in
    let near = c.arrive.ensures.near in
    let worth = c.requires.ground.worth in
    record {
      searching = c.arrive.ensures.kept g c.requires.searching (λ less. record {
        from = c.args.end;
        stands = c.requires.stands;
        reached = at.reached;
        settled = at.settled;
        near = omega arith;
      });
      improves = i;
      leaving = record {
        known = c.requires.split;
        at = at_kept old new i c.args.end.node at;
        far = far ∙ sym same;
        stands = c.requires.stands;
        spent = cost;
      };
      out = omega arith;
      over = λ k l. absurd (omega arith);
    }

pub loop-group-preserved : goal.loop-group-preserved
loop-group-preserved c =
    let g = c.args.ground.now in
    let ends = c.ends_of-ends.result in
    let old = c.loop-group.search in
    let new = c.over_group.new.search in
    let i = c.over_group.ensures.improves in
    let leaving = c.loop-group.invariant.leaving in
    let same = i.nearer.settled c.args.end.node leaving.at.settled in
    let bound = i.nearer.bound in
    record {
      searching = c.over_group.ensures.searching;
      improves = improves_trans c.args.search.now old new c.loop-group.invariant.improves i;
      leaving = leaving_kept g old new i (record {
        split = c.args.split;
        end = c.args.end;
        far = c.far_of-far.result;
        spent = c.cost_at-spent.result;
      }) leaving;
      out = (let before = c.loop-group.invariant.out in omega arith);
      over = below_more (λ (k : ℕ). (x : End) → IsOf (wave_of g).tree (IsOutBy g ends)
          (get_or ends.groups k first) x → IsOverTo g new c.args.end c.args.split x) c.loop-group.group-index
          (λ k l x of. (let before = c.loop-group.invariant.over k l x of in
          let far = i.nearer.far x.node in omega arith))
          (subst (λ groups. (x : End) → IsOf (wave_of g).tree (IsOutBy g ends)
          (get_or groups c.loop-group.group-index first) x → IsOverTo g new c.args.end c.args.split x)
          c.groups-group-items.ensures c.over_group.ensures.over);
    }

pub stays-requires-clause-searching : goal.stays-requires-clause-searching
stays-requires-clause-searching c =
    let at = c.requires.at in
    let far = c.far_of-far.ensures in
    let cost = c.cost_at-spent.ensures.cost in
    let worth = c.requires.ground.worth in
    c.arrive.ensures.kept c.args.ground.now c.requires.searching (λ less. record {
      from = c.args.end;
      stands = c.requires.stands;
      reached = at.reached;
      settled = at.settled;
      near = omega arith;
    })

pub stays-requires-clause-leaving : goal.stays-requires-clause-leaving
stays-requires-clause-leaving c =
    let i = c.arrive.ensures.improves in
    let at = c.requires.at in
    record {
      known = c.requires.split;
      at = at_kept c.args.search.now c.arrive.new.self i c.args.end.node at;
      far = c.far_of-far.ensures ∙ sym (i.nearer.settled c.args.end.node at.settled);
      stands = c.requires.stands;
      spent = c.cost_at-spent.ensures.cost;
    }

pub returns-clause-improves : goal.returns-clause-improves
returns-clause-improves c =
    improves_trans c.args.search.now c.loop-group.search c.learn_low.new.search c.loop-group.invariant.improves
    c.learn_low.ensures.improves

pub returns-clause-over : goal.returns-clause-over
returns-clause-over c =
    let g = c.args.ground.now in
    let search = c.loop-group.search in
    let ends = c.ends_of-ends.result in
    let size = ap length c.groups-group-items.ensures in
    over_kept search c.learn_low.new.search c.learn_low.ensures.improves.nearer g c.args.end.node c.args.split
    c.loop-group.invariant.leaving.at.settled (record {
      over = λ e x stands is is_end.
          (let same = stands_same (state_at g) c.args.split c.args.end e c.requires.stands stands in
          subst (λ e. IsOverTo g search e c.args.split x) same
          (all_among (wave_of g).tree (IsOutBy g ends) ends.groups first
          (λ x. IsOverTo g search c.args.end c.args.split x)
          (λ k l. c.loop-group.invariant.over k (omega arith)) x
          (subst (λ ends. HasEnd (wave_of g).tree ends x) (sym c.ends_of-ends.ensures)
          ((c.requires.ground.ends.each c.args.split x c.loop-group.invariant.leaving.known).1 is_end))));
      out = λ e stands is.
          (let same = stands_same (state_at g) c.args.split c.args.end e c.requires.stands stands in
          subst (λ e. search.bound + reach_cost (wave_of g) (state_at g) c.args.split e
          ≤ far_at search e.node + worth_at g) same c.loop-group.invariant.out);
    })

pub returns-then-stays-clause-over : goal.returns-then-stays-clause-over
returns-then-stays-clause-over c =
    let g = c.args.ground.now in
    let search = c.arrive.new.self in
    let same_far = c.arrive.ensures.improves.nearer.settled c.args.end.node c.requires.at.settled in
    record {
      over = λ e x stands is is_end.
          (let same = stands_same (state_at g) c.args.split c.args.end e c.requires.stands stands in
          subst (λ e. IsOverTo g search e c.args.split x) same (c.stays.ensures c.if-stays.true x is_end));
      out = λ e stands is.
          (let same = stands_same (state_at g) c.args.split c.args.end e c.requires.stands stands in
          subst (λ e. search.bound + reach_cost (wave_of g) (state_at g) c.args.split e
          ≤ far_at search e.node + worth_at g) same
          (let near = c.arrive.ensures.near in
          let worth = c.requires.ground.worth in
          let cost = c.cost_at-spent.ensures.cost in
          let below = c.requires.ground.kept.cheapest.below_waiting c.args.split c.args.end c.requires.stands in
          let far = c.far_of-far.ensures in
          omega arith));
    }

pub returns-then-search-far-clause-over : goal.returns-then-search-far-clause-over
returns-then-search-far-clause-over c =
    let g = c.args.ground.now in
    let search = c.arrive.new.self in
    let same_far = c.arrive.ensures.improves.nearer.settled c.args.end.node c.requires.at.settled in
    let bound : search.bound ≤ far_at search c.args.end.node = omega arith in
    record {
      over = λ e x stands is is_end.
          (let same = stands_same (state_at g) c.args.split c.args.end e c.requires.stands stands in
          subst (λ e. IsOverTo g search e c.args.split x) same
          (let least = c.requires.ground.kept.cheapest.least c.args.split c.args.end x c.requires.stands is_end in
          omega arith));
      out = λ e stands is.
          (let same = stands_same (state_at g) c.args.split c.args.end e c.requires.stands stands in
          subst (λ e. search.bound + reach_cost (wave_of g) (state_at g) c.args.split e
          ≤ far_at search e.node + worth_at g) same
          (let near = c.arrive.ensures.near in
          let worth = c.requires.ground.worth in
          let cost = c.cost_at-spent.ensures.cost in
          let below = c.requires.ground.kept.cheapest.below_waiting c.args.split c.args.end c.requires.stands in
          let far = c.far_of-far.ensures in
          omega arith));
    }
