use Rattle.std.proofs.Common.{ap, arith, subst}
use Rattle.tree_flow.specs.Table.{at_node}
use Rattle.tree_flow.proofs.Moved.{lets_wait}
use Rattle.tree_planner.specs.Choosing.{IsChoice}
use Rattle.tree_planner.specs.View.{state_of}
use Rattle.tree_planner.proofs.Lowered.{deeper_low}
use Rattle.tree_planner.proofs.Still.{held_on}
use Rattle.tree_planner.proofs.engine.ship.Goals as goal

pub returns-in-Wait-clause-held : goal.returns-in-Wait-clause-held
returns-in-Wait-clause-held c =
    let wave = c.args.problem.now in
    let old = state_of c.args.tables.now in
    held_on wave c.args.tables.now c.place.new.tables c.requires.held c.place.ensures.terms c.place.ensures.tables
    (λ v.
    (let depth = ap (λ t. at_node t v) c.place.ensures.depth in let low = c.requires.held.low v in omega arith))
    (lets_wait wave old (state_of c.place.new.tables) c.args.split c.requires.held.kept c.requires.unshipped
    (subst (λ r. IsChoice wave old c.args.split r) c.in-Wait.is c.choice.ensures) c.place.ensures.placed)

pub returns-in-Wait-clause-low : goal.returns-in-Wait-clause-low
returns-in-Wait-clause-low c =
    deeper_low c.args.problem.now (state_of c.args.tables.now) (state_of c.place.new.tables) c.args.search.now.lows
    (λ v. (let same = ap (λ t. at_node t v) c.place.ensures.depth in omega arith)) c.requires.low

pub returns-in-Stand-clause-low : goal.returns-in-Stand-clause-low
returns-in-Stand-clause-low c =
    deeper_low c.args.problem.now (state_of c.args.tables.now) (state_of c.stand.new.tables) c.args.search.now.lows
    (λ v. (let same = ap (λ t. at_node t v) c.stand.ensures.depth in omega arith)) c.requires.low
