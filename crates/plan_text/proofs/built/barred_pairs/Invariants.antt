use Rattle.std.proofs.Common.{◌≡◌, ◌<◌, length, map, take}
use Rattle.std.specs.List.{All}
use Rattle.line_shapes.specs.declared.keyword.Keyword.TheVariants.{Barred, Split, Worker}
use Rattle.line_rules.specs.Known.{rows_of}
use Rattle.plan_text.specs.Names.{names_of}
use Rattle.plan_text.specs.Value.{declared_bar}
use Rattle.plan_text.proofs.built.barred_pairs.Given as goal

abbrev pub invariant-loop-line : goal.invariant-loop-line
invariant-loop-line l =
    (l.pairs.items ≡ map (declared_bar (names_of Split l.rows) (names_of Worker l.rows))
    (take l.line (rows_of Barred l.rows)))
    × All (λ pair. pair.0 < length (rows_of Split l.rows)) l.pairs.items
