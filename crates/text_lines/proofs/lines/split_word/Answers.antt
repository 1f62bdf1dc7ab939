use Rattle.std.proofs.Common.{rules, ◌==◌, ◌<◌, ◌∙◌, ◌∷◌, List, ℕ, Some, ap₂, arith, eqb-true, get_or, sym}
use Rattle.std.proofs.Common.{take, true, ap, ◌-◌, ◌≡◌}
use Rattle.std.specs.List.{position}
use Rattle.std.proofs.lemmas.List.Quantifiers.{position-Some}
use Rattle.std.proofs.lemmas.Str.{IsCharBoundary-after_ascii, IsCharBoundary-before_ascii}
use Rattle.text_lines.specs.Texts.{words_of}
use Rattle.text_lines.proofs.Splitting.{cut_none, cut_some}
use Rattle.text_lines.proofs.lines.split_word.Goals as goal

ascii_at : (line : List ℕ) (at : ℕ) → (get_or line at 0 == 32) ≡ true → get_or line at 0 < 128
ascii_at line at is =
    let space : get_or line at 0 ≡ 32 = eqb-true _ _ is in
    omega (arith, space)

pub range-requires-clause-end_boundary : goal.range-requires-clause-end_boundary
range-requires-clause-end_boundary c =
    let line = c.args.line.now in
    let at = position-Some (λ b. b == 32) line c.in-Some.at 0 (search rules) in
    IsCharBoundary-before_ascii line c.in-Some.at at.0 (ascii_at line c.in-Some.at at.1)

pub range_from-requires : goal.range_from-requires
range_from-requires c past =
    let line = c.args.line.now in
    let at = position-Some (λ b. b == 32) line c.in-Some.at 0 (search rules) in
    IsCharBoundary-after_ascii line c.in-Some.at (search rules) at.0 (ascii_at line c.in-Some.at at.1)

pub returns-in-Some-clause-words : goal.returns-in-Some-clause-words
returns-in-Some-clause-words c =
    let line = c.args.line.now in
    let found : position (λ b. b == 32) line ≡ Some c.in-Some.at = search rules in
    let whole : c.in-Some.at - 0 ≡ c.in-Some.at = omega arith in
    let front : c.range.result.now ≡ take c.in-Some.at line =
    c.range.ensures.value ∙ ap (λ n. take n line) whole in (
      cut_some (λ b. b == 32) line c.in-Some.at found
          ∙ ap₂ (λ (word rest : List ℕ). word ∷ words_of rest) (sym front) (sym c.range_from.ensures.value),
      omega (arith, c.range_from.ensures.len),
    )

pub returns-in-None-clause-words : goal.returns-in-None-clause-words
returns-in-None-clause-words c = cut_none (λ b. b == 32) c.args.line.now (search rules)
