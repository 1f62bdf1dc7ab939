use Rattle.std.proofs.Common.{◌≡◌, ◌<◌, length, map, take}
use Rattle.std.specs.List.{All}
use Rattle.line_shapes.specs.declared.keyword.Keyword.TheVariants.{Rack, Worker}
use Rattle.line_rules.specs.Known.{rows_of}
use Rattle.plan_text.specs.Names.{names_of}
use Rattle.plan_text.specs.Value.{rack_number}
use Rattle.plan_text.proofs.built.racks_of_workers.Given as goal

abbrev pub invariant-loop-worker : goal.invariant-loop-worker
invariant-loop-worker l =
    (l.racks.items ≡ map (rack_number (names_of Rack l.rows)) (take l.worker (rows_of Worker l.rows)))
    × All (λ rack. rack < length (names_of Rack l.rows)) l.racks.items
