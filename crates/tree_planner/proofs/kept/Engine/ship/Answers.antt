use Rattle.std.proofs.lemmas.Bool.{false≢true}
use Rattle.tree_planner.proofs.Lowered.{none_low}
use Rattle.tree_planner.proofs.Standing.{held, stands_held}
use Rattle.tree_planner.proofs.kept.Engine.ship.Goals as goal

pub ship-requires-clause-low : goal.ship-requires-clause-low
ship-requires-clause-low c = none_low _ _ c.in_ok-search.search.lows c.in_ok-search.ensures.lows

pub ship-requires-clause-held : goal.ship-requires-clause-held
ship-requires-clause-held c =
    let inv = c.self.invariant in
    held c.self.inside.problem c.self.inside.tables inv.1 c.self.inside.fixed inv.0

pub invariant_of-self : goal.invariant_of-self
invariant_of-self c =
    let inv = c.self.invariant in (
      inv.0,
      stands_held c.self.inside.problem c.self.inside.tables inv.1 c.ship.new.tables c.ship.ensures.terms
          c.ship.ensures.held,
      inv.2,
      λ is. absurd (false≢true is),
    )
