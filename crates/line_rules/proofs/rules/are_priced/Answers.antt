use Rattle.std.proofs.Common.{[], ◌<◌, ◌∙◌, arith, length, sym, true≢false}
use Rattle.std.proofs.lemmas.List.{length-map}
use Rattle.line_shapes.specs.declared.keyword.Keyword.TheVariants.{End}
use Rattle.line_rules.specs.Entering.{Key, key_of}
use Rattle.line_rules.specs.Known.{keys_of}
use Rattle.line_rules.proofs.rules.are_priced.Goals as goal

abbrev no_key : Key
no_key = (End, [], [])

pub returns-then-not-has_its_price : goal.returns-then-not-has_its_price
returns-then-not-has_its_price c =
    let rows = c.args.rows.now in
    let inside : c.loop-row.row < length (keys_of rows) =
    omega (arith, length-map rows key_of, c.len-row-end.ensures, c.loop-row-test.true) in (
      λ t. absurd (true≢false (sym t)),
      λ all. absurd (true≢false (sym ((c.has_its_price.ensures no_key).1 (all c.loop-row.row no_key inside))
          ∙ c.if-not-has_its_price.true)),
    )
