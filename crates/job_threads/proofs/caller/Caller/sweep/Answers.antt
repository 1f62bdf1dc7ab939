use Rattle.std.proofs.Common.{◌≡◌, sym}
use Rattle.std.proofs.lemmas.Result.{IfOk-weaker}
use Rattle.job_threads.proofs.Chains.{swept_so}
use Rattle.job_threads.proofs.caller.Caller.sweep.Goals as goal

pub returns-clause-swept : goal.returns-clause-swept
returns-clause-swept g c =
    let told : c.hand_in-answer.new.self.watch.told ≡ c.follow.new.self.watch.told =
    sym (λ k. (c.follow.ensures.watch k).told) in
    let splits : c.hand_in-answer.new.self.holdings.splits ≡ c.args.self.now.holdings.splits =
    λ k. (c.hand_in-answer.ensures.same k).holdings.splits in
    let workers : c.hand_in-answer.new.self.holdings.workers.items ≡ c.args.self.now.holdings.workers.items =
    λ k. (c.hand_in-answer.ensures.same k).holdings.workers.items in
    IfOk-weaker c.follow.result _ _
    (λ rose follows. swept_so _ _ _ _ _ _ c.hand_in-answer.new.self.dead _ _ _ _ c.hand_in-answer.result rose _
    told splits workers
    c.hand_in-answer.ensures.kept (sym c.in_ok-judge.ensures.value) c.hand_in-answer.ensures.dead follows)
    c.follow.ensures.follows
