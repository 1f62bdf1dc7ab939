use Rattle.std.proofs.Common.{◌∙◌, ap, arith, inl, inr}
use Rattle.tree_flow.proofs.Moved.{same_or_not}
use Rattle.tree_planner.specs.Searching.{far_at}
use Rattle.tree_planner.proofs.over.is_past_low.Goals as goal

pub is_past_bound-requires-clause-bound : goal.is_past_bound-requires-clause-bound
is_past_bound-requires-clause-bound c =
    let m = c.args.leaving in
    let spent = c.requires.leaving.spent in
    let below = c.requires.ground.kept.cheapest.below_waiting m.split m.end c.requires.leaving.stands in
    let small = c.requires.ground.small in
    let bound = c.requires.searching.bound in
    let limit = c.requires.searching.limit in
    omega arith

pub is_past_bound-requires-clause-far : goal.is_past_bound-requires-clause-far
is_past_bound-requires-clause-far c =
    let most = c.requires.low.most in
    let at = c.requires.leaving.at.reached in
    let far = c.requires.leaving.far in
    let small = c.requires.ground.small in
    let limit = c.requires.searching.limit in
    omega arith

pub returns-then-is_same : goal.returns-then-is_same
returns-then-is_same c = λ true x is not_one not_two.
    (let m = c.args.leaving in
    let past = c.is_past_bound.ensures true in
    let far = c.requires.leaving.far in
    let spent = c.requires.leaving.spent in
    elim (same_or_not x.node m.end.node) [
      | inl e ↦
          (let least = c.requires.ground.kept.cheapest.least m.split m.end x c.requires.leaving.stands is in
          let same = ap (far_at c.args.search.now) e in
          omega arith)
      | inr n ↦
          (let less = c.requires.low.least x is (λ s. elim s [
            | inl e ↦ n (e ∙ c.is_same.ensures.0 c.if-is_same.true)
            | inr racks ↦ elim racks [ inl e ↦ not_one e | inr e ↦ not_two e ]
          ]) in
          omega arith)
    ])
