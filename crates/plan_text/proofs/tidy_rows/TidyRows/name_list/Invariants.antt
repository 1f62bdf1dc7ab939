use Rattle.std.proofs.Common.{◌≡◌, take}
use Rattle.plan_text.specs.Names.{names_of}
use Rattle.plan_text.proofs.tidy_rows.TidyRows.name_list.Given as goal

abbrev pub invariant-loop-number : goal.invariant-loop-number
invariant-loop-number l = l.names ≡ take l.number (names_of l.keyword l.self)
