use Rattle.std.proofs.Common.{◌≡◌, ◌∙◌, ◌^◌, ◌%◌, ap, arith, eqb, length, sym, take, w8}
use Rattle.std.specs.Simd.Lanes.{mask_l, zip2}
use Rattle.std.proofs.lemmas.Bool.{eq-eqb, eqb-true}
use Rattle.std.proofs.lemmas.Simd.{length-chunk, length-zip2, mask_l-mod, tops_compared}
use Rattle.text_lines.proofs.Parts.{all_same, same_all, same_in}
use Rattle.text_lines.proofs.same.have_same_front.Goals as goal

pub returns : goal.returns
returns c =
    let xs = take 4 c.args.a.now in
    let ys = take 4 c.args.b.now in
    let four : length xs ≡ 4 = length-chunk 0 4 c.args.a.now c.requires.first in
    let more : length ys ≡ 4 = length-chunk 0 4 c.args.b.now c.requires.second in
    let is = ap (λ ms. mask_l ms % 2 ^ 64) (tops_compared w8 eqb xs ys)
    ∙ mask_l-mod (zip2 eqb xs ys) 64 (omega (arith, length-zip2 eqb xs ys (four ∙ sym more), four)) in (
      λ t. same_all xs ys four more (sym is ∙ eqb-true _ 15 t),
      λ same. eq-eqb _ 15 (is ∙ ap (same_in xs) (sym same) ∙ all_same xs four),
    )
