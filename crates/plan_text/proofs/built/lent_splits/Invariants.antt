use Rattle.std.proofs.Common.{◌≡◌, drop, map, take}
use Rattle.line_shapes.specs.declared.keyword.Keyword.TheVariants.{Busy, Split, Worker}
use Rattle.line_rules.specs.Known.{rows_of}
use Rattle.plan_text.specs.Names.{names_of}
use Rattle.plan_text.specs.Value.{declared_split, holders_of}
use Rattle.plan_text.proofs.built.lent_splits.Given as goal

abbrev pub invariant-loop-split : goal.invariant-loop-split
invariant-loop-split l = record {
  lines : l.lines.items
      ≡ map (declared_split (names_of Worker l.rows) (names_of Busy l.rows))
      (take l.split (rows_of Split l.rows));
  rest : l.rest ≡ holders_of (names_of Worker l.rows) (drop l.split (rows_of Split l.rows));
}
