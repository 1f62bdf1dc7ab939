use Rattle.std.proofs.Common.{◌≡◌, ◌∙◌, ap, inl, inr, rules}
use Rattle.std.proofs.lemmas.Result.{on_ok_weaker}
use Rattle.job_threads.specs.Steps.{sent}
use Rattle.job_threads.specs.Turns.{idle_after}
use Rattle.job_threads.proofs.caller.Caller.turn.Goals as goal

pub returns-clause-started : goal.returns-clause-started
returns-clause-started g c =
    let started = c.in_ok-started.started in
    let before = c.start.new.self in
    let counted : c.count_idle.new.self.idle ≡ idle_after c.args.self.now.idle started = search rules in
    on_ok_weaker c.act.result
    (λ idle. (
      started,
      sent before.lanes.items before.hand,
      c.in_ok-started.ensures.starts,
      elim idle [ inl same ↦ inl (same ∙ counted) | inr zero ↦ inr zero ],
    ))
    c.act.ensures.idle
