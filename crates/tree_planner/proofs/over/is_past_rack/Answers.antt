use Rattle.std.proofs.Common.{◌∙◌, ap, arith, subst, sym}
use Rattle.std.proofs.lemmas.Bool.{false≢true}
use Rattle.tree_flow.specs.Nodes.{IsNode}
use Rattle.tree_planner.specs.Searching.{far_at, state_at, wave_of}
use Rattle.tree_planner.proofs.Lowered.{rack_least}
use Rattle.tree_planner.proofs.over.is_past_rack.Goals as goal

pub is_past-requires-clause-small : goal.is_past-requires-clause-small
is_past-requires-clause-small c =
    let m = c.args.leaving in
    let spent = c.requires.leaving.spent in
    let below = c.requires.ground.kept.cheapest.below_waiting m.split m.end c.requires.leaving.stands in
    let small = c.requires.ground.small in
    let bound = c.requires.searching.bound in
    let limit = c.requires.searching.limit in
    omega arith

pub returns-then-not-is_inner : goal.returns-then-not-is_inner
returns-then-not-is_inner c = λ true x is at.
    absurd (false≢true (sym c.if-not-is_inner.true
    ∙ c.is_inner.ensures.1 (subst (λ v. IsNode (wave_of c.args.ground.now).tree v) at is.known)))

pub cost_below-requires-clause-known : goal.cost_below-requires-clause-known
cost_below-requires-clause-known c = c.is_inner.ensures.0 c.if-not-is_inner.false

pub returns : goal.returns
returns c = λ true x is at.
    (let g = c.args.ground.now in
    let past = c.is_past.ensures true in
    let cost = c.cost_below.ensures.cost in
    let far = c.requires.leaving.far in
    let spent = c.requires.leaving.spent in
    let least = rack_least (wave_of g) (state_at g) c.args.leaving.split c.args.rack x is at in
    let same = ap (far_at c.args.search.now) at in
    omega arith)
