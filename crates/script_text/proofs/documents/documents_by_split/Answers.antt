use Rattle.std.proofs.Common.{ℕ, List, [], ◌∷◌, ◌++◌, ◌≡◌, ◌<◌, ◌∙◌, ap, arith}
use Rattle.std.proofs.Common.{length, map, refl, replicate, subst, sym, take}
use Rattle.std.specs.List.{Contains}
use Rattle.std.proofs.lemmas.List.{length-map, length-take-le, take_more}
use Rattle.line_shapes.specs.Lines.{Statement}
use Rattle.line_shapes.specs.declared.keyword.Keyword.TheVariants.{Doc, Split}
use Rattle.line_rules.specs.Known.{nth_row, rows_of}
use Rattle.word_map.specs.declared.text.Document.{Document}
use Rattle.plan_text.specs.Names.{names_of, nth_word}
use Rattle.plan_text.specs.Value.{number_in}
use Rattle.plan_text.proofs.Named.{names_differ}
use Rattle.script_text.specs.Documents.{document_of, documents_of}
use Rattle.script_text.proofs.Gathering.{documents_none, gathered_more}
use Rattle.script_text.proofs.Lines.{tidy_docs}
use Rattle.script_text.proofs.documents.documents_by_split.Goals as goal

pub loop-number-init : goal.loop-number-init
loop-number-init c =
    let rows = c.args.rows.now in
    let none : List Document = [] in
    c.in_ok-lists.ensures
    ∙ ap (λ n. replicate n none) (c.count.ensures.value ∙ sym (length-map (rows_of Split rows) (nth_word 0)))
    ∙ sym (documents_none (names_of Split rows))

pub document_of-requires-clause-few : goal.document_of-requires-clause-few
document_of-requires-clause-few c = c.count.ensures.tidy.few_documents

pub split-split-requires : goal.split-split-requires
split-split-requires c =
    let rows = c.args.rows.now in
    let inside : c.loop-number.number < length (rows_of Doc rows) =
    omega (arith, c.loop-number-test.true, c.count-number-end.ensures.value) in
    subst (Contains (names_of Split rows)) (sym c.word.ensures)
    (tidy_docs rows c.count.ensures.tidy c.loop-number.number _ inside)

pub loop-number-preserved : goal.loop-number-preserved
loop-number-preserved c =
    let rows = c.args.rows.now in
    let splits = names_of Split rows in
    let n = c.loop-number.number in
    let docs = rows_of Doc rows in
    let line : Statement = nth_row Doc n rows in
    let inside : n < length docs =
    omega (arith, c.loop-number-test.true, c.count-number-end.ensures.value) in
    let known : Contains splits (nth_word 1 line) = tidy_docs rows c.count.ensures.tidy n _ inside in
    let differ = names_differ Split refl rows c.count.ensures.tidy.differ in
    let size : length (take n docs) ≡ n = length-take-le n docs (omega (arith, inside)) in
    let now_is = c.in_ok-push.ensures.items
    ∙ ap (λ (d : Document). c.index_mut.result.now.items ++ d ∷ [])
    (c.in_ok-document.ensures ∙ ap (λ (i : ℕ). document_of (i, line)) (sym size)) in
    gathered_more splits (take n docs) line c.loop-number.lists.items c.index.result c.index_mut.result.now
    c.push.new.self differ known
    (c.index.ensures.value ∙ c.split-split.ensures.value ∙ ap (number_in splits) c.word.ensures)
    c.loop-number.invariant c.index_mut.ensures.value now_is
    ∙ ap (λ (l : List Statement). map (documents_of l) splits) (sym (take_more docs n _ inside))
