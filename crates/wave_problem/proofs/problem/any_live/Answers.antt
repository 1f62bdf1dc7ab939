use Rattle.std.proofs.Common.{refl, sym, ◌∙◌}
use Rattle.wave_problem.specs.Wave.{worker_in}
use Rattle.wave_problem.proofs.Least.{some_kept}
use Rattle.wave_problem.proofs.problem.any_live.Goals as goal

pub returns-then-lives : goal.returns-then-lives
returns-then-lives c =
    let kept = some_kept (λ h. (worker_in c.args.workers.now h).live) c.args.holders.now
    c.loop-worker.worker-index c.worker-item.result c.loop-worker-test.true c.worker-item.is
    (sym c.lives.ensures ∙ c.if-lives.true) in
    (λ _. kept, λ _. refl)
