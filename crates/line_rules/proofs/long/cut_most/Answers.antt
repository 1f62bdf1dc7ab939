use Rattle.std.proofs.Common.{◌∷◌, [], ◌++◌, ◌≡◌, ◌≤◌, ◌∙◌, Some, ap, arith, length, map, subst, sym}
use Rattle.std.proofs.lemmas.List.{length-map, map-append}
use Rattle.std.proofs.lemmas.Option.{none-some}
use Rattle.text_lines.specs.Texts.{words_of}
use Rattle.line_shapes.specs.Places.{more_of}
use Rattle.line_shapes.specs.declared.place.Place.TheVariants.{Text}
use Rattle.line_shapes.specs.Lines.{words_after}
use Rattle.line_rules.specs.Long.{IsUsed, IsWorst, StandsFor, most_words}
use Rattle.line_rules.proofs.Longer.{stands}
use Rattle.line_rules.proofs.long.cut_most.Goals as goal

pub returns : goal.returns
returns c =
    let k = c.args.known.now in
    let word = c.args.keyword in
    let items = c.cut_words.new.words.items in
    let ws = map (λ w. w.now) items in
    let vs = words_of c.in-Some.left.now in
    let v = c.worst_word.result.now in
    let full = rw c.in-Some.is at c.in_ok-left.ensures.full in
    let all = rw c.in-Some.is at c.in_ok-left.ensures.all in
    let most : most_words k word ≤ length ws = rw length-map (omega (arith, full, c.most_words.ensures)) in
    let short : map (λ w. w.now) c.push.new.self.items ≡ ws ++ v ∷ [] =
    ap (map (λ w. w.now)) c.in_ok-push.ensures.items
    ∙ map-append (λ w. w.now) items (c.worst_word.result ∷ []) in
    let whole : words_after word c.args.rest ≡ ws ++ vs = all in
    let no_text : more_of word ≡ Some Text → ⊥ = λ text.
    none-some _ (sym (c.in_ok-left.ensures.text text) ∙ c.in-Some.is) in
    let of_place = subst (λ place. IsUsed place → IsWorst c.version.result c.rows.result.now place vs v)
    c.more.ensures c.worst_word.ensures.worst in
    let of_version = subst (λ version. IsUsed (more_of word) → IsWorst version c.rows.result.now (more_of word) vs v)
    c.version.ensures of_place in
    let worst : IsUsed (more_of word) → IsWorst k.version k.rows (more_of word) vs v =
    subst (λ rows. IsUsed (more_of word) → IsWorst k.version rows (more_of word) vs v) c.rows.ensures of_version in
    let found : StandsFor k word (ws ++ v ∷ []) (ws ++ vs) =
    stands k word ws vs v most c.worst_word.ensures.one no_text worst in
    subst (λ short. StandsFor k word short (words_after word c.args.rest)) (sym short)
    (subst (StandsFor k word (ws ++ v ∷ [])) (sym whole) found)
