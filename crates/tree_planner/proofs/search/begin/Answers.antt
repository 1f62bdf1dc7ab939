use Rattle.std.proofs.Common.{◌∙◌}
use Rattle.tree_planner.proofs.Begun.{begun}
use Rattle.tree_planner.proofs.search.begin.Goals as goal

pub returns-clause-searching : goal.returns-clause-searching
returns-clause-searching c =
    begun c.args.ground.now c.requires.ground c.args.search.now c.requires.blank c.args.split c.args.least
    c.requires.split c.requires.least c.clear.new.self (record {
      racks = c.clear.ensures.size.racks ∙ c.requires.blank.tables.covers.racks;
      centres = c.clear.ensures.size.centres ∙ c.requires.blank.tables.covers.centres;
    })
    c.clear.ensures.none c.requires.low
