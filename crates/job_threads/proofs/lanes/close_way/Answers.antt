use Rattle.std.proofs.Common.{◌≡◌, ◌∙◌, [], ◌∷◌, ap, arith, sym}
use Rattle.std.proofs.lemmas.Grind.{common_steps}
use Rattle.job_threads.proofs.Halves.{handed_over}
use Rattle.job_threads.proofs.lanes.close_way.Goals as goal

pub returns-in-Ok-close-clause-closed : goal.returns-in-Ok-close-clause-closed
returns-in-Ok-close-clause-closed g c =
    let passes : c.push_reserved-2.new.self.items ≡ c.args.our ∷ c.args.their ∷ [] =
    grind (arith, common_steps) in
    handed_over c.args.our c.args.their _ c.in-Ok-close.field-0.left.items passes
    (ap (λ p. p.depth) (sym c.our.view_is) ∙ c.our.invariant.half)
    (ap (λ p. p.depth) (sym c.their.view_is) ∙ c.their.invariant.half) c.in-Ok-close.ensures.settled
