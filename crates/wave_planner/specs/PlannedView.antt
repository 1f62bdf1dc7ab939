use Rattle.wave_planner.specs.Planned.{Planned}
use Rattle.wave_planner.specs.declared.planning.Planned.TheInside.{Inside}

-- the fields of a plan with prices
abbrev pub planned_of : Inside → Planned
planned_of p = record { plan = p.plan; prices = p.prices; certified = p.certified }
