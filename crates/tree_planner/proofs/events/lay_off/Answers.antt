use Rattle.std.proofs.Common.{◌<◌, length, arith}
use Rattle.tree_flow.specs.declared.nodes.Place.TheVariants.{Unshipped}
use Rattle.tree_planner.proofs.Started.{laid_off, tables_placed}
use Rattle.tree_planner.proofs.events.lay_off.Goals as goal

pub returns-clause-standing : goal.returns-clause-standing
returns-clause-standing c = λ wave standing.
    (let old = c.args.tables.now in
    let new = c.unmark.new.tables in
    let known : c.args.split < length wave.splits =
    (let size = standing.tables.places in let few = c.requires.split in omega arith) in
    laid_off wave old new c.args.split standing c.requires.idle
    (tables_placed wave old new c.args.split Unshipped known c.unmark.ensures.rest c.unmark.ensures.placed
    (λ e is. cc) standing.tables) c.unmark.ensures.placed)
