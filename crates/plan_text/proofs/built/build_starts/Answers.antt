use Rattle.std.proofs.Common.{◌<◌, ◌∙◌, ◌++◌, ◌∷◌, [], ap, arith, length, sym}
use Rattle.std.proofs.lemmas.List.{length-map, map_more}
use Rattle.line_shapes.specs.declared.keyword.Keyword.TheVariants.{Split, Start, Worker}
use Rattle.line_rules.specs.Known.{rows_of}
use Rattle.plan_text.specs.Names.{names_of}
use Rattle.plan_text.specs.Value.{start_at}
use Rattle.plan_text.proofs.Named.{name_at}
use Rattle.plan_text.proofs.built.build_starts.Goals as goal

pub loop-split-preserved : goal.loop-split-preserved
loop-split-preserved c =
    let rows = c.args.rows.now in
    let i = c.loop-split.split in
    let names = names_of Split rows in
    let f = start_at (names_of Worker rows) (rows_of Start rows) in
    let inside : i < length (rows_of Split rows) =
    omega (arith, c.loop-split-test.true, c.count-count.ensures.value) in
    let far : i < length names = rw length-map inside in
    c.in_ok-push.ensures.items
    ∙ (λ j. c.loop-split.invariant j
    ++ (c.start_of.ensures ∙ ap f (c.word.ensures ∙ sym (name_at Split rows i [] inside))) j ∷ [])
    ∙ sym (map_more f names i [] far)
