use Rattle.std.proofs.Common.{ap, arith, subst, sym}
use Rattle.tree_flow.specs.Table.{at_node}
use Rattle.tree_planner.specs.Lows.{AreLow}
use Rattle.tree_planner.specs.View.{state_of}
use Rattle.tree_planner.proofs.Lowered.{deeper_low}
use Rattle.tree_planner.proofs.Still.{held_on}
use Rattle.tree_planner.proofs.engine.search_and_follow.Goals as goal

pub follow-requires-clause-ready : goal.follow-requires-clause-ready
follow-requires-clause-ready c =
    c.find.ensures.ready c.deepen.new.depth c.deepen.ensures.deeper

pub returns-clause-low : goal.returns-clause-low
returns-clause-low c =
    let wave = c.args.problem.now in
    let new = state_of c.follow.new.tables in
    subst (λ lows. AreLow wave new lows) (sym c.clear.ensures.lows)
    (deeper_low wave (state_of c.args.tables.now) new c.find.new.search.lows (λ v.
    (let same = ap (λ t. at_node t v) c.follow.ensures.depth in
    let deep = c.deepen.ensures.deeper v in
    let low = c.requires.held.low v in
    omega arith)) c.find.ensures.low)

pub returns-clause-held : goal.returns-clause-held
returns-clause-held c =
    held_on c.args.problem.now c.args.tables.now c.follow.new.tables c.requires.held c.follow.ensures.terms
    c.follow.ensures.tables
    (λ v.
    (let same = ap (λ t. at_node t v) c.follow.ensures.depth in let low = c.deepen.ensures.low v in omega arith))
    c.follow.ensures.shipped.kept
