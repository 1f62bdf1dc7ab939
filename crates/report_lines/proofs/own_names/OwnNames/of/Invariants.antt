use Rattle.std.proofs.Common.{◌≡◌, map, take}
use Rattle.report_lines.proofs.own_names.OwnNames.of.Given as goal

abbrev pub invariant-loop-number : goal.invariant-loop-number
invariant-loop-number l = map (λ name. name.items) l.names.items ≡ take l.number l.table
