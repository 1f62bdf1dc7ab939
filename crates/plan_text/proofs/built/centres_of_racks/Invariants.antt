use Rattle.std.proofs.Common.{◌≡◌, ◌<◌, length, map, max, take}
use Rattle.std.specs.List.{All}
use Rattle.line_shapes.specs.declared.keyword.Keyword.TheVariants.{Centre, Rack}
use Rattle.line_rules.specs.Known.{rows_of}
use Rattle.plan_text.specs.Names.{names_of}
use Rattle.plan_text.specs.Value.{centre_number}
use Rattle.plan_text.proofs.built.centres_of_racks.Given as goal

abbrev pub invariant-loop-rack : goal.invariant-loop-rack
invariant-loop-rack l =
    (l.centres.items ≡ map (centre_number (names_of Centre l.rows)) (take l.rack (rows_of Rack l.rows)))
    × All (λ centre. centre < max 1 (length (names_of Centre l.rows))) l.centres.items
