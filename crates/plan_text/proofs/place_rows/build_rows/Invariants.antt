use Rattle.std.proofs.Common.{◌≡◌, map, take}
use Rattle.line_shapes.specs.declared.keyword.Keyword.TheVariants.{Places, Worker}
use Rattle.line_rules.specs.Known.{rows_of}
use Rattle.plan_text.specs.Names.{names_of}
use Rattle.plan_text.specs.Value.{places_at}
use Rattle.plan_text.proofs.place_rows.build_rows.Given as goal

abbrev pub invariant-loop-worker : goal.invariant-loop-worker
invariant-loop-worker l =
    map (λ row. row.items) l.list.items
    ≡ map (places_at (rows_of Places l.rows)) (take l.worker (names_of Worker l.rows))
