use Rattle.std.proofs.Common.{◌<◌, ◌∙◌, ◌++◌, ◌∷◌, [], ap, arith, length, sym}
use Rattle.std.proofs.lemmas.List.{length-map, map_more}
use Rattle.line_shapes.specs.declared.keyword.Keyword.TheVariants.{Price}
use Rattle.line_rules.specs.Known.{rows_of}
use Rattle.plan_text.specs.Names.{names_of}
use Rattle.plan_text.specs.Value.{price_at}
use Rattle.plan_text.proofs.Named.{name_at}
use Rattle.plan_text.proofs.built.prices_of.Goals as goal

pub loop-number-preserved : goal.loop-number-preserved
loop-number-preserved c =
    let rows = c.args.rows.now in
    let i = c.loop-number.number in
    let names = names_of c.args.keyword rows in
    let f = price_at (rows_of Price rows) in
    let inside : i < length (rows_of c.args.keyword rows) =
    omega (arith, c.loop-number-test.true, c.count-count.ensures.value) in
    let far : i < length names = rw length-map inside in
    c.in_ok-push.ensures.items
    ∙ (λ j. c.loop-number.invariant j
    ++ (c.price_of.ensures ∙ ap f (c.word.ensures ∙ sym (name_at c.args.keyword rows i [] inside))) j ∷ [])
    ∙ sym (map_more f names i [] far)
