use Rattle.std.proofs.Common.{refl, subst, sym}
use Rattle.tree_planner.specs.Ends.{IsOf}
use Rattle.tree_planner.specs.Searching.{wave_of, IsOutBy}
use Rattle.tree_planner.proofs.search.start_group.Goals as goal

pub start_at-requires-clause-is_end : goal.start_at-requires-clause-is_end
start_at-requires-clause-is_end c =
    c.requires.group c.in-Single.end (subst (λ g. IsOf (wave_of c.args.ground.now).tree
    (IsOutBy c.args.ground.now c.args.ends.now) g c.in-Single.end) (sym c.in-Single.is) refl)

pub returns-in-Below-clause-started : goal.returns-in-Below-clause-started
returns-in-Below-clause-started c = λ x of.
    c.start_below.ensures.started x (subst (λ g. IsOf (wave_of c.args.ground.now).tree
    (IsOutBy c.args.ground.now c.args.ends.now) g x) c.in-Below.is of)

pub start_below-requires-clause-group : goal.start_below-requires-clause-group
start_below-requires-clause-group c = λ x of.
    c.requires.group x (subst (λ g. IsOf (wave_of c.args.ground.now).tree (IsOutBy c.args.ground.now c.args.ends.now) g x)
    (sym c.in-Below.is) of)
