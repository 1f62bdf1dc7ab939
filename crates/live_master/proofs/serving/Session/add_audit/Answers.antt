use Rattle.std.proofs.Common.{subst}
use Rattle.std.specs.Prelude.{IfSome}
use Rattle.std.proofs.lemmas.Result.{on_ok_weaker}
use Rattle.price_certificate.specs.Certificate.{Certifies}
use Rattle.live_master.specs.Serving.{claim_of}
use Rattle.live_master.proofs.Sessions.{told_audit}
use Rattle.live_master.proofs.serving.Session.add_audit.Goals as goal

pub returns-in-Some-2 : goal.returns-in-Some-2
returns-in-Some-2 c =
    let certified = subst (λ last. IfSome last (λ a. Certifies (claim_of a))) c.in-Some.is c.requires.certified in
    let told = rw c.in-Some-2.is at c.in_ok-text.ensures in
    on_ok_weaker c.add_text.result
    (λ done. told_audit c.args.self.now c.in-Some.last _ _ _ c.in-Some.is certified told done)
    c.add_text.ensures
