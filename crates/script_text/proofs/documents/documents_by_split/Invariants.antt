use Rattle.std.proofs.Common.{◌≡◌, map, take}
use Rattle.line_shapes.specs.declared.keyword.Keyword.TheVariants.{Doc, Split}
use Rattle.line_rules.specs.Known.{rows_of}
use Rattle.plan_text.specs.Names.{names_of}
use Rattle.script_text.specs.Documents.{documents_of}
use Rattle.script_text.proofs.Gathering.{items_of}
use Rattle.script_text.proofs.documents.documents_by_split.Given as goal

abbrev pub invariant-loop-number : goal.invariant-loop-number
invariant-loop-number l =
    items_of l.lists.items ≡ map (documents_of (take l.number (rows_of Doc l.rows))) (names_of Split l.rows)
