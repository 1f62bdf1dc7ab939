use Rattle.std.proofs.Common.{◌≡◌, ◌∙◌, ◌==◌, ℕ, List, ap, length, not, subst}
use Rattle.std.proofs.lemmas.Result.{IfOk-weaker}
use Rattle.job_threads.specs.Chains.{OnlyIf}
use Rattle.job_threads.specs.Steps.{AreCopied, known}
use Rattle.job_threads.proofs.Chains.{follows_so}
use Rattle.job_threads.proofs.caller.Caller.follow.Goals as goal

pub returns-clause-follows : goal.returns-clause-follows
returns-clause-follows g c =
    let told : c.copy_if.new.self.watch.told ≡ c.args.self.now.watch.told =
    (λ k. (c.copy_if.ensures.same k).watch.told) ∙ (λ k. (c.bury_all.ensures.same k).watch.told) in
    let splits : c.copy_if.new.self.holdings.splits ≡ c.args.self.now.holdings.splits =
    c.copy_if.ensures.splits ∙ c.bury_all.ensures.splits in
    let hand : c.bury_all.new.self.hand ≡ c.args.self.now.hand = λ k. (c.bury_all.ensures.same k).hand in
    let dead : c.bury_all.new.self.dead ≡ c.args.self.now.dead = λ k. (c.bury_all.ensures.same k).dead in
    let died = c.is_empty-died.ensures ∙ ap (λ (ws : List ℕ). length ws == 0) (c.workers.ensures ∙ dead) in
    let copies = subst
    (λ b. OnlyIf (not b) (AreCopied g.L.OfJob.setup g.L.Aim.target)
    (known c.bury_all.new.self.holdings.workers.items c.bury_all.new.self.hand)
    (known c.copy_if.new.self.holdings.workers.items c.copy_if.new.self.hand))
    died c.in_ok-copy_if.ensures.copies in
    IfOk-weaker c.join_all.result _ _
    (λ rose joined. follows_so _ _ _ _ _ _ _ _ _ _ _ rose _ _ c.bury_all.ensures.workers hand copies told
    splits joined)
    c.join_all.ensures.joined
