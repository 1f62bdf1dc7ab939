use Rattle.std.proofs.Common.{◌∙◌, refl}
use Rattle.tree_planner.specs.Engine.{with_depth}
use Rattle.tree_planner.specs.View.{state_of}
use Rattle.tree_planner.proofs.TightBack.{ready}
use Rattle.tree_planner.proofs.refill.find.Goals as goal

pub returns-clause-ready : goal.returns-clause-ready
returns-clause-ready c = λ depth higher.
    ready _ (record { fixed = c.requires.fixed; known = c.requires.known; standing = c.requires.standing })
    c.find_rest.new.search c.find_rest.ensures.searched (c.find_rest.ensures.hole ∙ c.begin.ensures.hole)
    (with_depth (state_of c.args.tables.now) depth) refl refl refl refl higher
