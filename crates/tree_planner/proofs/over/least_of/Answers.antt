use Rattle.std.proofs.Common.{refl, subst, sym}
use Rattle.tree_planner.specs.Ends.{IsOf}
use Rattle.tree_planner.specs.Searching.{wave_of, IsOutBy}
use Rattle.tree_planner.proofs.over.least_of.Goals as goal

pub cost_at-requires-clause-is_end : goal.cost_at-requires-clause-is_end
cost_at-requires-clause-is_end c =
    c.requires.group c.in-Single.other (subst (λ g. IsOf (wave_of c.args.ground.now).tree
    (IsOutBy c.args.ground.now c.args.ends.now) g c.in-Single.other) (sym c.in-Single.is) refl)
