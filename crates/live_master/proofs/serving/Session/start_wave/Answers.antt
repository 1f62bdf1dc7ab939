use Rattle.std.proofs.Common.{sym, subst}
use Rattle.std.proofs.lemmas.Result.{on_ok_weaker}
use Rattle.wave_problem.specs.Assignment.{Plan}
use Rattle.price_certificate.specs.Certificate.{Certifies}
use Rattle.price_certificate.specs.PriceList.{PriceList}
use Rattle.master_state.specs.Jobs.{IsCommitted, present}
use Rattle.live_master.specs.Serving.{IsOpen}
use Rattle.live_master.proofs.Sessions.{ready_started}
use Rattle.live_master.proofs.serving.Session.start_wave.Goals as goal

pub returns-in-Ok-clause-ready : goal.returns-in-Ok-clause-ready
returns-in-Ok-clause-ready c =
    let job = c.args.self.now.master in
    let parts = c.into_parts-plan.ensures in
    let committed = subst (λ (p : Plan). IsCommitted job p.starts c.in-Ok.wave c.start_best.new.self)
    (sym parts.plan) c.in-Ok.ensures.committed in
    let certified = subst (λ (ps : PriceList). Certifies (present job c.into_parts-plan.result.0.starts ps))
    (sym parts.prices)
    (subst (λ (p : Plan). Certifies (present job p.starts c.in-Ok.planned.prices)) (sym parts.plan)
    c.in-Ok.ensures.certifies) in
    on_ok_weaker c.tell_started.result
    (λ kept. subst IsOpen (sym kept) (ready_started c.args.self.now _ c.in-Ok.wave c.start_best.new.self _ committed
    c.in_ok-problem.ensures.present certified c.requires.ready.draft c.requires.ready))
    c.tell_started.ensures.kept
