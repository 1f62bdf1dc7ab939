use Rattle.std.proofs.Common.{◌≡◌, map, take}
use Rattle.line_shapes.specs.declared.keyword.Keyword.TheVariants.{Price}
use Rattle.line_rules.specs.Known.{rows_of}
use Rattle.plan_text.specs.Names.{names_of}
use Rattle.plan_text.specs.Value.{price_at}
use Rattle.plan_text.proofs.built.prices_of.Given as goal

abbrev pub invariant-loop-number : goal.invariant-loop-number
invariant-loop-number l =
    l.prices.items ≡ map (price_at (rows_of Price l.rows)) (take l.number (names_of l.keyword l.rows))
