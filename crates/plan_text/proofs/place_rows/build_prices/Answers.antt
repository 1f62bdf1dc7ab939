use Rattle.std.proofs.Common.{ℕ, List, ◌∙◌, ap, map, subst, sym, take_all}
use Rattle.std.specs.List.{All}
use Rattle.std.proofs.lemmas.Simd.{map-map}
use Rattle.text_lines.specs.Texts.{Word, number_of}
use Rattle.price_certificate.specs.declared.TheConstants.{MAX_PLACE_PRICE}
use Rattle.plan_text.specs.Tidy.{IsAtMost}
use Rattle.plan_text.proofs.Parts.{All-unmap}
use Rattle.plan_text.proofs.Words.{places_at}
use Rattle.plan_text.proofs.place_rows.build_prices.Goals as goal

pub price_of-requires : goal.price_of-requires
price_of-requires c =
    let IsPrice : Word → Type 0 = λ w. IsAtMost w MAX_PLACE_PRICE in
    All-unmap IsPrice (λ w. w.now) c.price_words-words.result.now
    (subst (All IsPrice) (sym c.price_words-words.ensures)
    (places_at c.args.rows.now c.are_tidy.ensures c.args.row c.requires).each) c.loop-word.word-index _
    c.loop-word-test.true

pub returns : goal.returns
returns c =
    let words = c.price_words-words.result.now in
    c.loop-word.invariant
    ∙ ap (map (λ w. number_of w.now)) (take_all c.loop-word.word-index words c.loop-word-test.false)
    ∙ sym (map-map number_of (λ w. w.now) words) ∙ ap (map number_of) c.price_words-words.ensures
