use Rattle.std.proofs.Common.{◌≡◌, refl, sym, ◌∙◌}
use Rattle.std.proofs.lemmas.Bool.{eq-eqb}
use Rattle.rack_tree.specs.Tree.{distance}
use Rattle.rack_tree.proofs.Distances.{distance_by}
use Rattle.wave_problem.specs.Wave.{worker_in}
use Rattle.wave_problem.proofs.Least.{least_zero}
use Rattle.wave_problem.proofs.problem.least_distance.Goals as goal

pub returns-then-lives-clause-least : goal.returns-then-lives-clause-least
returns-then-lives-clause-least c =
    let tree = c.args.tree.now in
    let to = c.args.to in
    let none : distance tree to to ≡ 0 = rw (distance_by tree to to, eq-eqb to to refl) refl in
    sym (least_zero (λ h. distance tree h to) (λ h. (worker_in c.args.workers.now h).live) to none
    (sym c.lives.ensures ∙ c.if-lives.true) c.args.holders.now
    (sym c.contains.ensures.value ∙ c.if-contains.true))
