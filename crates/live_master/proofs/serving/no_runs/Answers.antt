use Rattle.std.proofs.Common.{List, ◌∙◌, ap, subst, sym}
use Rattle.std.proofs.lemmas.Result.{IfOk-weaker}
use Rattle.master_state.specs.Jobs.{Job}
use Rattle.master_state.specs.States.{Cluster}
use Rattle.job_play.specs.Given.{HoldsRuns, Runs}
use Rattle.live_master.proofs.Sessions.{holds_none}
use Rattle.live_master.proofs.serving.no_runs.Goals as goal

pub returns : goal.returns
returns c =
    let job = c.args.master.now in
    let parts = c.parts.ensures.count ∙ ap (λ (cluster : Cluster). cluster.parts) c.cluster.ensures
    ∙ ap (λ (j : Job). j.setup.cluster.parts) c.requires.1 in
    IfOk-weaker c.new.result _ _
    (λ given is. subst (λ (runs : List Runs). HoldsRuns runs job) (sym is)
    (holds_none c.requires.0 c.parts.result job c.requires.1 parts))
    c.new.ensures
