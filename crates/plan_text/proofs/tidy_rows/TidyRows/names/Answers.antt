use Rattle.std.proofs.Common.{List, ◌<◌, ◌∙◌, ◌∷◌, ◌++◌, [], arith, length, subst, sym, take}
use Rattle.std.proofs.lemmas.List.{length-map, take_more}
use Rattle.std.specs.List.{Contains}
use Rattle.text_lines.specs.Texts.{Word}
use Rattle.line_rules.specs.Known.{rows_of}
use Rattle.plan_text.specs.Names.{names_of}
use Rattle.plan_text.proofs.Named.{name_at, name_new}
use Rattle.plan_text.proofs.tidy_rows.TidyRows.names.Goals as goal

pub declare-requires : goal.declare-requires
declare-requires c has =
    let k = c.args.keyword in
    let rows = c.args.self.now in
    let i = c.loop-number.number in
    let inside : i < length (rows_of k rows) =
    omega (arith, c.loop-number-test.true, c.count-count.ensures.value) in
    name_new k c.requires rows c.count-count.ensures.tidy.differ i inside
    (subst (λ (w : Word). Contains (take i (names_of k rows)) w) c.word.ensures
    (subst (λ (l : List Word). Contains l c.word.result.now) c.loop-number.invariant has))

pub loop-number-preserved : goal.loop-number-preserved
loop-number-preserved c =
    let k = c.args.keyword in
    let rows = c.args.self.now in
    let i = c.loop-number.number in
    let names = names_of k rows in
    let inside : i < length (rows_of k rows) =
    omega (arith, c.loop-number-test.true, c.count-count.ensures.value) in
    let far : i < length names = rw length-map inside in
    c.in_ok-declare.ensures.ok
    ∙ (λ j. c.loop-number.invariant j ++ (c.word.ensures ∙ sym (name_at k rows i [] inside)) j ∷ [])
    ∙ sym (take_more names i [] far)
