use Rattle.std.proofs.Common.{◌∙◌, ap, arith, eqb, sym, w8}
use Rattle.std.specs.Int.{bit_at}
use Rattle.std.specs.Simd.Lanes.{chunk}
use Rattle.std.proofs.lemmas.Simd.{bitmask_splat, length-chunk}
use Rattle.text_lines.proofs.Spaces.{marked_space, space_marked}
use Rattle.text_lines.proofs.lines.spaces_in_front.Goals as goal

pub returns-clause-marked : goal.returns-clause-marked
returns-clause-marked c k lt is =
    let line = c.args.line.now in
    ap (λ m. bit_at m k)
    (bitmask_splat w8 eqb (chunk 0 8 line) 8 32 (length-chunk 0 8 line c.requires) (omega arith))
    ∙ space_marked line k lt is

pub returns-clause-spaces : goal.returns-clause-spaces
returns-clause-spaces c k set =
    let line = c.args.line.now in
    marked_space line k c.requires
    (sym (ap (λ m. bit_at m k)
    (bitmask_splat w8 eqb (chunk 0 8 line) 8 32 (length-chunk 0 8 line c.requires) (omega arith))) ∙ set)
