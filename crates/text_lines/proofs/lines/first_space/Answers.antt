use Rattle.std.proofs.Common.{◌==◌, arith, w64}
use Rattle.std.proofs.lemmas.Bool.{eq-eqb, eqb-true, false_from_ne_true}
use Rattle.std.proofs.lemmas.Nat.Bits.{bit_at-trailing_zeros}
use Rattle.text_lines.proofs.FirstByte.{position-at}
use Rattle.text_lines.proofs.lines.first_space.Goals as goal

pub returns-then-spaces-ne0 : goal.returns-then-spaces-ne0
returns-then-spaces-ne0 c =
    let line = c.args.line.now in
    let said = c.spaces_in_front-spaces.ensures in
    let h = bit_at-trailing_zeros w64 c.spaces_in_front-spaces.result (omega (arith, c.if-spaces-ne0.true)) (omega (arith, c.spaces_in_front-spaces.type_inv)) in
    let at = said.spaces _ h.1 in
    position-at (λ b. b == 32) line _ (omega (arith, at.0, c.if-line-lt-FRONT.false))
    (λ j lt. false_from_ne_true _ (λ is.
    let set = said.marked j (omega (arith, lt, at.0)) (eqb-true _ 32 is) in
    absurd (omega (arith, set, h.2 j lt))))
    (eq-eqb _ 32 at.1)
