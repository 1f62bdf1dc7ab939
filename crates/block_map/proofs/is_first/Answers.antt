use Rattle.std.proofs.Common.{◌-◌, not, sym, ap, ◌∙◌, arith}
use Rattle.std.specs.Prelude.{◌==◌}
use Rattle.std.proofs.lemmas.Grind.{get_or_default_zero}
use Rattle.block_map.proofs.Walking.{in_before}
use Rattle.block_map.proofs.is_first.Goals as goal

pub returns-else-place-eq0 : goal.returns-else-place-eq0
returns-else-place-eq0 c =
    let splits = c.args.splits.now in
    let place = c.args.place in
    let last = c.index-splits-place.is
    ∙ get_or_default_zero splits (place - 1) c.index-splits-place.result (omega (arith, c.requires.inside)) in
    let here = c.index-splits-place-else-place-eq0.is
    ∙ get_or_default_zero splits place c.index-splits-place-else-place-eq0.result c.requires.inside in
    c.ne.ensures ∙ (λ k. not (last k == here k))
    ∙ ap not (sym (in_before splits place c.requires.rising c.requires.inside
    (omega (arith, c.if-place-eq0.false))))
