use Rattle.std.proofs.Common.{rules, ◌≡◌, Ok, Err}
use Rattle.shared_master.specs.declared.waves.Uncommitted.TheVariants.{Refused}
use Rattle.shared_master.proofs.Waving.{committed_as, refused_as}
use Rattle.shared_master.proofs.shared.SharedMaster.turn.Goals as goal

pub returns-in-Ok-committed : goal.returns-in-Ok-committed
returns-in-Ok-committed g c =
    let told : c.commit-committed.result ≡ Ok c.in-Ok-committed.shared = search rules in
    committed_as _ _ _ _ _ _ c.commit-committed.result c.in-Ok-committed.shared _ _ c.in-Ok.ensures.1
    c.commit-committed.ensures.old
    (record {
      planned = c.in-Ok.ensures.0.planned;
      of_job = c.in-Ok.ensures.0.of_job;
      made = c.in-Ok.ensures.0.made;
    })
    c.commit-committed.ensures.answer told

pub returns-in-Err-Refused : goal.returns-in-Err-Refused
returns-in-Err-Refused g c =
    let told : c.commit-committed.result ≡ Err (Refused c.in-Err-Refused.error) = search rules in
    refused_as _ _ _ _ _ c.commit-committed.result c.in-Err-Refused.error _ _ c.in-Ok.ensures.0
    c.in-Ok.ensures.1 c.commit-committed.ensures.old c.commit-committed.ensures.answer told
