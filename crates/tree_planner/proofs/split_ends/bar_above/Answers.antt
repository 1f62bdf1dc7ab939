use Rattle.std.proofs.Common.{◌∙◌, ap, subst, slice_index}
use Rattle.std.specs.Prelude.{false}
use Rattle.tree_flow.specs.declared.nodes.TreeNode.TheVariants.{Centre, Rack, Worker}
use Rattle.tree_planner.proofs.Barred.{marked_above, IsMarked}
use Rattle.tree_planner.proofs.split_ends.bar_above.Goals as goal

pub returns-clause-barred : goal.returns-clause-barred
returns-clause-barred c =
    let tree = c.args.tree.now in
    marked_above tree c.args.worker c.args.bars.now c.set.new.self c.set-2.new.self c.set-3.new.self c.set-4.new.self
    (subst (λ x. IsMarked c.args.bars.now c.set.new.self (Worker x)) c.index.ensures.value
    (c.set.ensures.here false, c.set.ensures.others false))
    (subst (λ x. IsMarked c.set.new.self c.set-2.new.self (Rack x))
    (c.index-2.ensures.value ∙ c.rack_of-rack.ensures.rack)
    (c.set-2.ensures.here false, c.set-2.ensures.others false))
    (subst (λ x. IsMarked c.set-2.new.self c.set-3.new.self (Centre x))
    (c.index-3.ensures.value ∙ c.centre_of-centre.ensures.centre
    ∙ ap (slice_index tree.centre_of) c.rack_of-rack.ensures.rack)
    (c.set-3.ensures.here false, c.set-3.ensures.others false))
    (c.set-4.ensures.here false, c.set-4.ensures.others false)
