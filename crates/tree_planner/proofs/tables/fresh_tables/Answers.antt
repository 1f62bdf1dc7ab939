use Rattle.std.proofs.Common.{refl, sym, subst, length, ◌∙◌}
use Rattle.tree_flow.specs.State.{slots_of}
use Rattle.std.specs.Prelude.{slice_index}
use Rattle.tree_flow.specs.Table.{IsOver}
use Rattle.tree_flow.proofs.Fair.{fair_terms}
use Rattle.tree_planner.specs.Listing.{AreLists}
use Rattle.tree_planner.proofs.Fresh.{none_stands, same_sum}
use Rattle.tree_planner.proofs.tables.fresh_tables.Goals as goal

pub returns-clause-tables : goal.returns-clause-tables
returns-clause-tables c =
    let wave = c.args.problem.now in
    record {
      places = c.in_ok-places.ensures.size;
      flow = subst (λ t. IsOver t c.in_ok-flow.flow) c.tree.ensures.tree c.in_ok-flow.ensures.over;
      depth = subst (λ t. IsOver t c.in_ok-depth.depth) c.tree-2.ensures.tree c.in_ok-depth.ensures.over;
      free = c.in_ok-free.ensures.size;
      below = c.in_ok-below.ensures.over;
      sums = λ v. c.in_ok-below.ensures.sums v
          ∙ sym (same_sum wave v (λ w. slice_index c.in_ok-free.free.items w) (slots_of wave) c.in_ok-free.ensures.slots);
      lists = subst (λ t. AreLists t (length wave.splits) c.in_ok-standing.standing) c.tree-3.ensures.tree
          (subst (λ n. AreLists c.tree-3.result.now n c.in_ok-standing.standing) c.splits.ensures.count
          c.in_ok-standing.ensures.lists);
      known = λ s e stands. absurd (none_stands c.in_ok-places.places.items c.in_ok-places.ensures.all s e stands);
      listed = λ s e stands. absurd (none_stands c.in_ok-places.places.items c.in_ok-places.ensures.all s e stands);
    }

pub returns-clause-fresh : goal.returns-clause-fresh
returns-clause-fresh c = record {
  fair = fair_terms c.args.problem.now c.args.prices _ c.limits.ensures.each
      (record { worth = c.requires.worth; price = λ w k. refl });
  size = c.in_ok-places.ensures.size;
  places = c.in_ok-places.ensures.all;
  flow = c.in_ok-flow.ensures.all;
  depth = c.in_ok-depth.ensures.all;
  free = c.in_ok-free.ensures.slots;
}
