use Rattle.std.proofs.Common.{ℕ, List, [], ◌∷◌, ◌++◌, ◌≡◌, ◌∙◌, ◌-◌, ◌+◌, suc, Some, Bor, ap, arith, map, sym}
use Rattle.std.proofs.Common.{append-nil}
use Rattle.std.proofs.Common.{append_assoc, rules}
use Rattle.std.proofs.lemmas.Grind.{common_steps}
use Rattle.std.proofs.lemmas.List.{map-append}
use Rattle.text_lines.specs.Texts.{Word}
use Rattle.line_shapes.specs.Lines.{first_words}
use Rattle.line_shapes.specs.declared.place.Place.TheVariants.{Text}
use Rattle.line_shapes.proofs.cut.first_words.Goals as goal

cut_one : (words : List (Bor (List ℕ))) (word : Bor (List ℕ)) (all left : List Word) (m n : ℕ) (rest : List ℕ)
    → all ≡ map (λ w. w.now) words ++ first_words m rest → m ≡ suc n
    → first_words (suc n) rest ≡ word.now ∷ left → all ≡ map (λ w. w.now) (words ++ word ∷ []) ++ left
cut_one words word all left m n rest was counted cut =
    was
    ∙ ap (λ k. map (λ w. w.now) words ++ first_words k rest) counted
    ∙ ap (λ l. map (λ w. w.now) words ++ l) cut
    ∙ sym (ap (λ l. l ++ left) (map-append (λ w. w.now) words (word ∷ []))
    ∙ append_assoc (map (λ w. w.now) words) (word.now ∷ []) left)

pub returns-in_default : goal.returns-in_default
returns-in_default c =
    let n = c.args.count - (c.loop-number.number + 1) in
    let word = c.first_word.result.0 in
    let last = rw c.in_default.is at (c.first_word.ensures (Some Text) n) in
    ap (map (λ w. w.now)) c.in_ok-push.ensures.items
    ∙ sym (append-nil (map (λ w. w.now) (c.loop-number.words.items ++ word ∷ [])))
    ∙ sym (cut_one c.loop-number.words.items word _ [] _ n c.loop-number.rest.now c.loop-number.invariant.0
    (omega (arith, c.loop-number-test.true)) last)

pub loop-number-preserved : goal.loop-number-preserved
loop-number-preserved c =
    let n = c.args.count - (c.loop-number.number + 1) in
    let word = c.first_word.result.0 in
    let more = rw c.in-Some.is at (c.first_word.ensures (Some Text) n) in (
      cut_one c.loop-number.words.items word _ (first_words n c.in-Some.after.now) _ n c.loop-number.rest.now
          c.loop-number.invariant.0 (omega (arith, c.loop-number-test.true)) more
          ∙ ap (λ ws. map (λ w. w.now) ws ++ first_words n c.in-Some.after.now)
          (sym c.in_ok-push.ensures.items),
      search rules,
    )

pub returns : goal.returns
returns c = grind (arith, common_steps)
