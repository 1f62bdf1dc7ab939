use Rattle.std.proofs.Common.{◌≡◌, ◌≤◌, ◌-◌, ◌∙◌, ap, arith, drop, length, refl, sym, take}
use Rattle.text_lines.proofs.Parts.{last_part, same_word}
use Rattle.text_lines.proofs.same.are_same.Goals as goal

pub returns-then-have_same_front : goal.returns-then-have_same_front
returns-then-have_same_front c =
    let a = c.as_bytes-first.result.now in
    let b = c.as_bytes-second.result.now in
    let m = length a - 4 in
    let long : length a ≡ length b = omega (arith, c.if-first-second.false) in
    let least : 4 ≤ length a = omega (arith, c.if-first-lt-PART.false) in
    let most : length a ≤ 8 = omega (arith, c.if-first.false) in
    let first : take 4 a ≡ take 4 b = c.have_same_front.ensures.0 c.if-have_same_front.true in
    let last = c.have_same_front-then-have_same_front.ensures in
    let part = last_part a b m long refl least most in (
      λ t. sym c.as_bytes-first.ensures.value
          ∙ same_word a b m long refl least most first (sym (part a refl) ∙ last.0 t ∙ part b (sym long))
          ∙ c.as_bytes-second.ensures.value,
      λ same. last.1 (ap (λ w. take 4 (take (length w - m) (drop m w)))
          (c.as_bytes-first.ensures.value ∙ same ∙ sym c.as_bytes-second.ensures.value)),
    )
