use Rattle.std.proofs.Common.{◌<◌, ◌∙◌, ◌++◌, ◌∷◌, [], ap, arith, length, map, sym}
use Rattle.std.proofs.lemmas.List.{length-map, map-append, map_more}
use Rattle.line_shapes.specs.declared.keyword.Keyword.TheVariants.{Places, Worker}
use Rattle.line_rules.specs.Known.{rows_of}
use Rattle.plan_text.specs.Names.{names_of}
use Rattle.plan_text.specs.Value.{places_at}
use Rattle.plan_text.proofs.Named.{name_at}
use Rattle.plan_text.proofs.place_rows.build_rows.Goals as goal

pub loop-worker-preserved : goal.loop-worker-preserved
loop-worker-preserved c =
    let rows = c.args.rows.now in
    let i = c.loop-worker.worker in
    let names = names_of Worker rows in
    let f = places_at (rows_of Places rows) in
    let inside : i < length (rows_of Worker rows) =
    omega (arith, c.loop-worker-test.true, c.count-count.ensures.value) in
    let far : i < length names = rw length-map inside in
    ap (map (λ row. row.items)) c.in_ok-push.ensures.items
    ∙ map-append (λ row. row.items) c.loop-worker.list.items (c.in_ok-row.row ∷ [])
    ∙ (λ j. c.loop-worker.invariant j
    ++ (c.in_ok-row.ensures ∙ ap f (c.word.ensures ∙ sym (name_at Worker rows i [] inside))) j ∷ [])
    ∙ sym (map_more f names i [] far)
