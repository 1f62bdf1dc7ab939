use Rattle.std.proofs.Common.{◌≡◌, ◌∙◌, ap, arith}
use Rattle.tree_flow.specs.State.{place_of, reach_cost, Terms}
use Rattle.tree_flow.specs.declared.nodes.End.{End}
use Rattle.tree_flow.specs.Table.{at_node}
use Rattle.tree_flow.proofs.Moved.{ships}
use Rattle.tree_planner.specs.View.{state_of}
use Rattle.tree_planner.proofs.Still.{held_on}
use Rattle.tree_planner.proofs.engine.stand.Goals as goal

pub returns-clause-held : goal.returns-clause-held
returns-clause-held c =
    let wave = c.args.problem.now in
    let old = state_of c.args.tables.now in
    let mid = state_of c.take_below.new.tables in
    let new = state_of c.place.new.tables in
    let s = c.args.split in
    let tight = c.requires.tight in
    let same : (e : End) → reach_cost wave mid s e ≡ reach_cost wave old s e =
    λ e. (let d = ap (λ t. at_node t e.node) c.take_below.ensures.depth in omega arith) in
    let worth = ap (λ (t : Terms). t.worth) c.take_below.ensures.terms in
    held_on wave c.args.tables.now c.place.new.tables c.requires.held
    (c.place.ensures.terms ∙ c.take_below.ensures.terms) c.place.ensures.tables
    (λ v.
    (let depth = ap (λ t. at_node t v) (c.place.ensures.depth ∙ c.take_below.ensures.depth) in
    let low = c.requires.held.low v in
    omega arith))
    (ships wave mid new s c.args.end c.take_below.ensures.hole
    (ap (λ places. place_of (record mid { places = places }) s) c.take_below.ensures.places ∙ c.requires.unshipped)
    tight.is_end
    (λ y is. (let a = same c.args.end in let b = same y in let least = tight.least y is in omega arith))
    (let a = same c.args.end in let most = tight.below_waiting in omega arith) c.place.ensures.placed)
