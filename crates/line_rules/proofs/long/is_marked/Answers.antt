use Rattle.std.proofs.Common.{List, ℕ, Bor, ◌<◌, ◌∙◌, ap, arith, length}
use Rattle.std.proofs.lemmas.List.{get_or_default}
use Rattle.line_rules.proofs.long.is_marked.Goals as goal

pub returns-clause-known : goal.returns-clause-known
returns-clause-known c t =
    let mark = c.mark_of-mark.result in
    let inside : mark < length c.args.marked.now = omega (arith, c.mark_of-mark.ensures, c.told-marked) in (
      mark,
      inside,
      λ d. ap (λ (w : Bor (List ℕ)). w.now) (get_or_default c.args.marked.now mark d _ inside)
          ∙ c.are_same-known.ensures.0 t,
    )
