use Rattle.std.proofs.Common.{ℕ, List, ◌≡◌, ◌∙◌, ◌+◌, ◌<◌, ◌++◌, ◌∷◌, None, [], ap, arith, get_or}
use Rattle.std.proofs.Common.{length, map, refl, set, subst, sym, true≢false}
use Rattle.std.proofs.lemmas.List.{get_or_read_under, length-map, map-append}
use Rattle.text_lines.specs.Texts.{Word}
use Rattle.line_rules.specs.Rows.{first_by}
use Rattle.line_rules.specs.WordTable.{AreChained, mark_of, pair_of}
use Rattle.line_rules.specs.declared.word_table.WordEntry.{WordEntry}
use Rattle.line_rules.proofs.Chained.{absent, chained_more, words_of}
use Rattle.line_rules.proofs.Keyed.{is_some_at, none_of}
use Rattle.line_rules.proofs.word_table.WordTable.put.Goals as goal

pub invariant_of-self-2 : goal.invariant_of-self-2
invariant_of-self-2 c =
    let es = c.self.inside.entries.items in
    let heads = c.self.inside.heads.items in
    let w = c.args.word.now in
    let mark = c.mark_of-mark.result in
    let marks = c.len.ensures ∙ c.self.inside.heads.ok.0 in
    let inside : mark < length heads = omega (arith, c.mark_of-mark.ensures.within, marks) in
    let each = length-map es (λ e. e.word.now) in
    let entry : WordEntry = record { word = c.args.word; of = c.args.of; next = c.index-next.result.now } in
    let all : c.push_reserved.new.self.items ≡ es ++ entry ∷ [] =
    c.push_reserved.ensures.items ∙ ap (λ (rest : List WordEntry). rest ++ entry ∷ []) c.reserve.ensures.items in
    let words : map (λ e. e.word.now) c.push_reserved.new.self.items ≡ words_of es ++ w ∷ [] =
    ap (map (λ e. e.word.now)) all ∙ map-append (λ e. e.word.now) es _ in
    let nexts : map (λ e. e.next) c.push_reserved.new.self.items ≡ map (λ e. e.next) es ++ get_or heads mark 0 ∷ [] =
    ap (map (λ e. e.next)) all ∙ map-append (λ e. e.next) es _
    ∙ ap (λ n. map (λ e. e.next) es ++ n ∷ [])
    (get_or_read_under heads mark (length heads) c.index-next.result.now 0 c.index-next.ensures inside refl) in
    let count : length (words_of es) + 1 ≡ c.in_ok-last.last =
    omega (arith, each, c.len-2.ensures, c.self.inside.entries.ok.0, c.in_ok-last.ensures) in
    let none : first_by (map pair_of es) w ≡ None =
    ap (λ (all : List WordEntry). first_by (map pair_of all) w) (sym c.deref.ensures.value)
    ∙ none_of _ (λ v is. true≢false (sym (is_some_at c.find.result v (c.find.ensures ∙ is)) ∙ sym c.is_some.ensures
    ∙ c.if-is_some.false)) in
    let more = chained_more (words_of es) (map (λ e. e.next) es) heads w c.self.invariant
    (length-map es (λ e. e.next) ∙ sym each) (λ j lt. absent es w none j (omega (arith, lt, each))) mark
    (c.mark_of-mark.ensures.is ∙ ap (mark_of w) marks) inside in
    let P : List Word × List ℕ × ℕ → Type 0 = λ t. AreChained t.0 t.1 (set heads mark t.2) in
    subst P (λ i. (sym words i, sym nexts i, count i)) more
