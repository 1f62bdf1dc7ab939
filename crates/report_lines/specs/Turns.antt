-- Turns of a report, by their fields.
use Rattle.std.specs.Prelude.{map, string_bytes}
use Rattle.report_lines.specs.declared.turns.Turn.{Turn}
use Rattle.report_lines.specs.declared.turns.Turns.TheInside.{Inside}
use Rattle.report_lines.specs.Rising.{IsRising}
use Rattle.report_lines.specs.ToldTurn.{ToldTurn, ToldTurns}

abbrev pub told : Turn → ToldTurn
told turn = record { before = string_bytes turn.before; events = turn.events }

abbrev pub all_told : Inside → ToldTurns
all_told t = record { each = map told t.turns.items; seen = t.seen }

-- what all turns of a report keep
abbrev pub AreInTurn : Inside → Type 0
AreInTurn t = IsRising 0 (map told t.turns.items) t.seen
