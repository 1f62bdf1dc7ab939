use Rattle.std.proofs.Common.{refl, subst, sym}
use Rattle.tree_planner.specs.Ends.{IsOf}
use Rattle.tree_planner.specs.Searching.{wave_of, IsOutBy}
use Rattle.tree_planner.proofs.over.over_group.Goals as goal

pub over_to-requires-clause-is_end : goal.over_to-requires-clause-is_end
over_to-requires-clause-is_end c =
    c.requires.group c.in-Single.other (subst (λ g. IsOf (wave_of c.args.ground.now).tree
    (IsOutBy c.args.ground.now c.args.ends.now) g c.in-Single.other) (sym c.in-Single.is) refl)

pub over_below-requires-clause-group : goal.over_below-requires-clause-group
over_below-requires-clause-group c = λ x of.
    c.requires.group x (subst (λ g. IsOf (wave_of c.args.ground.now).tree (IsOutBy c.args.ground.now c.args.ends.now) g x)
    (sym c.in-Below.is) of)
