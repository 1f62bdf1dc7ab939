use Rattle.std.proofs.Common.{ap, arith, length, subst, sym}
use Rattle.std.proofs.lemmas.Result.{on_ok_weaker}
use Rattle.live_master.specs.Serving.{IsOpen}
use Rattle.live_master.proofs.Sessions.{numbers_fit, ready_started, ready_unkept}
use Rattle.live_master.proofs.serving.Session.commit_plan.Goals as goal

pub returns-in-Ok-clause-ready : goal.returns-in-Ok-clause-ready
returns-in-Ok-clause-ready c =
    on_ok_weaker c.tell_started.result
    (λ kept. subst IsOpen (sym kept) (ready_started c.args.self.now _ c.in-Ok.wave c.commit_plan.new.self _
    c.in-Ok.ensures.1 c.in_ok-problem.ensures.present c.in-Ok.ensures.0 c.requires.ready.draft c.requires.ready))
    c.tell_started.ensures.kept

pub tell_wave-requires : goal.tell_wave-requires
tell_wave-requires c = omega (
  arith,
  numbers_fit c.args.self.now.master c.args.plan.starts c.in-Ok.wave c.commit_plan.new.self c.is_kept.ensures.small
      c.in-Ok.ensures.1,
  ap length c.deref-in-Ok-2.ensures.value,
  ap length c.in_ok-pairs.ensures,
)

pub returns-in-Ok-2-clause-ready : goal.returns-in-Ok-2-clause-ready
returns-in-Ok-2-clause-ready c =
    on_ok_weaker c.tell_wave.result
    (λ told. ready_unkept c.args.self.now _ c.in-Ok.wave c.commit_plan.new.self c.in-Ok.ensures.1 c.requires.ready)
    c.tell_wave.ensures
