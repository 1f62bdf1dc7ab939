use Rattle.std.proofs.Common.{◌∙◌, ap, refl, sym}
use Rattle.std.proofs.lemmas.Result.{IfOk-weaker}
use Rattle.plan_draft.specs.Drafts.{empty_draft}
use Rattle.live_master.specs.Requests.{word_of}
use Rattle.live_master.specs.Serving.{live_of}
use Rattle.live_master.proofs.Sessions.{hears_commit, hears_drop}
use Rattle.live_master.proofs.serving.Session.grant.Goals as goal

pub returns-in-Commit-clause-ok : goal.returns-in-Commit-clause-ok
returns-in-Commit-clause-ok c = λ line is.
    IfOk-weaker c.commit.result _ _
    (λ turn done. hears_commit c.args.self.now _ line _ _ turn (is ∙ ap word_of c.in-Commit.is) done)
    c.commit.ensures.ok

pub returns-in-Drop-clause-ok : goal.returns-in-Drop-clause-ok
returns-in-Drop-clause-ok c = λ line is.
    let named = c.requires.ready.draft in
    let none = c.clear.ensures ∙ (λ i. empty_draft (sym named.splits i) (sym named.workers i)) in
    hears_drop c.args.self.now _ line _ _ (is ∙ ap word_of c.in-Drop.is)
    (λ i. record (live_of c.args.self.now) { draft = none i }) refl
