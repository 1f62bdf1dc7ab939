-- The lines of a report whose copies are told of a master's past.
use Rattle.std.specs.Prelude.{ℕ, List, [], ◌++◌, Option, Some, None, string_bytes}
use Rattle.std.specs.List.{flat_map}
use Rattle.text_lines.specs.Texts.{Word}
use Rattle.report_lines.specs.Lines.{copy_line}
use Rattle.report_lines.specs.Past.{PastView, copies_at}
use Rattle.report_lines.specs.ToldTurn.{ToldTurn}
use Rattle.report_lines.specs.declared.report.MadeReport.{MadeReport}
use Rattle.report_lines.specs.declared.report.ReportLines.{ReportLines}

-- what stands before some orders, and a line for each of them
abbrev pub turn_lines : List Word → List Word → PastView → ToldTurn → List ℕ
turn_lines splits workers past turn =
    turn.before ++ flat_map (copy_line splits workers) (copies_at past turn.events)

abbrev pub turns_lines : List Word → List Word → PastView → List ToldTurn → List ℕ
turns_lines splits workers past turns = flat_map (turn_lines splits workers past) turns

-- the lines of all turns, and those after the last orders
abbrev pub report_bytes : List Word → List Word → PastView → ReportLines → List ℕ
report_bytes splits workers past lines =
    turns_lines splits workers past lines.turns.each ++ string_bytes lines.last

-- no turn has lines without a past
abbrev pub turns_bytes : List Word → List Word → Option PastView → List ToldTurn → List ℕ
turns_bytes splits workers None turns = []
turns_bytes splits workers (Some past) turns = turns_lines splits workers past turns

-- a report by its own names, after what waits already
abbrev pub made_bytes : MadeReport → List ℕ
made_bytes made =
    made.piece
    ++ (turns_bytes made.splits made.workers made.past made.lines.turns.each ++ string_bytes made.lines.last)
