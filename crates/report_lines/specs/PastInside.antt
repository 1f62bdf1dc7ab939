-- A past, by its fields.
use Rattle.report_lines.specs.declared.past.Past.TheInside.{Inside}
use Rattle.report_lines.specs.Past.{IsPast, PastView, past_from}

abbrev pub past_inside : Inside → PastView
past_inside p = past_from p.story p.opening

abbrev pub IsPastInside : Inside → Type 0
IsPastInside p = IsPast (past_inside p)
