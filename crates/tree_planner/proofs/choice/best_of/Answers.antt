use Rattle.std.proofs.Common.{refl, subst, sym}
use Rattle.tree_planner.specs.Ends.{IsOf}
use Rattle.tree_planner.specs.Searching.{wave_of, IsOutBy}
use Rattle.tree_planner.proofs.choice.best_of.Goals as goal

pub better-requires-clause-is_end : goal.better-requires-clause-is_end
better-requires-clause-is_end c =
    c.requires.group c.in-Single.end (subst (λ g. IsOf (wave_of c.args.ground.now).tree
    (IsOutBy c.args.ground.now c.args.ends.now) g c.in-Single.end) (sym c.in-Single.is) refl)

pub best_below-requires-clause-group : goal.best_below-requires-clause-group
best_below-requires-clause-group c = λ x of.
    c.requires.group x (subst (λ g. IsOf (wave_of c.args.ground.now).tree (IsOutBy c.args.ground.now c.args.ends.now) g x)
    (sym c.in-Below.is) of)
