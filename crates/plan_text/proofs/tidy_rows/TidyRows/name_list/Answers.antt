use Rattle.std.proofs.Common.{◌<◌, ◌∙◌, ◌∷◌, ◌++◌, [], arith, length, sym}
use Rattle.std.proofs.lemmas.List.{length-map, take_more}
use Rattle.line_rules.specs.Known.{rows_of}
use Rattle.plan_text.specs.Names.{names_of}
use Rattle.plan_text.proofs.Named.{name_at}
use Rattle.plan_text.proofs.tidy_rows.TidyRows.name_list.Goals as goal

pub loop-number-preserved : goal.loop-number-preserved
loop-number-preserved c =
    let k = c.args.keyword in
    let rows = c.args.self.now in
    let i = c.loop-number.number in
    let names = names_of k rows in
    let inside : i < length (rows_of k rows) =
    omega (arith, c.loop-number-test.true, c.count-count.ensures.value) in
    let far : i < length names = rw length-map inside in
    c.in_ok-push.ensures.ok
    ∙ (λ j. c.loop-number.invariant j ++ (c.word.ensures ∙ sym (name_at k rows i [] inside)) j ∷ [])
    ∙ sym (take_more names i [] far)
