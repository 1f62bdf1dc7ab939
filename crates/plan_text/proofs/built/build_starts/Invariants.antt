use Rattle.std.proofs.Common.{◌≡◌, map, take}
use Rattle.line_shapes.specs.declared.keyword.Keyword.TheVariants.{Split, Start, Worker}
use Rattle.line_rules.specs.Known.{rows_of}
use Rattle.plan_text.specs.Names.{names_of}
use Rattle.plan_text.specs.Value.{start_at}
use Rattle.plan_text.proofs.built.build_starts.Given as goal

abbrev pub invariant-loop-split : goal.invariant-loop-split
invariant-loop-split l =
    l.starts.items
    ≡ map (start_at (names_of Worker l.rows) (rows_of Start l.rows)) (take l.split (names_of Split l.rows))
