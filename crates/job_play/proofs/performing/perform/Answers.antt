use Rattle.std.proofs.lemmas.Result.{on_ok_weaker}
use Rattle.job_play.proofs.Kept.{holds_runs}
use Rattle.job_play.proofs.performing.perform.Goals as goal

pub returns-in-Wave-clause-given : goal.returns-in-Wave-clause-given
returns-in-Wave-clause-given c = on_ok_weaker c.wave.result
    (λ done. holds_runs c.args.given.now done (λ e. cc) c.requires.given)
    (c.wave.ensures.ok c.args.script.now.target)

pub returns-in-Ahead-clause-given : goal.returns-in-Ahead-clause-given
returns-in-Ahead-clause-given c = on_ok_weaker c.ahead.result
    (λ done. holds_runs c.args.given.now done (λ e. cc) c.requires.given)
    (c.ahead.ensures.ok c.args.script.now.target)

pub returns-in_ok-tell-in_default-clause-given : goal.returns-in_ok-tell-in_default-clause-given
returns-in_ok-tell-in_default-clause-given c =
    holds_runs c.args.given.now c.in_ok-tell-in_default.ensures c.in_default.not-Reduce c.requires.given
