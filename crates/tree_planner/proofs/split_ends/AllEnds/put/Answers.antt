use Rattle.std.proofs.Common.{ap, ◌∙◌, slice_set}
use Rattle.std.proofs.lemmas.List.{map-set}
use Rattle.tree_planner.specs.declared.split_ends.Stored.TheVariants.{Own}
use Rattle.tree_planner.specs.Stored.{stored_at}
use Rattle.tree_planner.proofs.split_ends.AllEnds.put.Goals as goal

pub returns : goal.returns
returns c =
    map-set (stored_at c.self.inside.shared.items) c.self.inside.each.items c.args.split (Own c.args.ends)
    ∙ ap (λ ends. slice_set ends c.args.split c.args.ends) c.self.view_is
