use Rattle.std.proofs.Common.{arith}
use Rattle.std.proofs.lemmas.Result.{on_ok_weaker}
use Rattle.job_play.proofs.Told.{no_fewer, performed_later}
use Rattle.job_play.proofs.performing.perform_in_report.Goals as goal

pub returns-in_default-clause-seen : goal.returns-in_default-clause-seen
returns-in_default-clause-seen c =
    on_ok_weaker c.perform.result (λ done. omega (arith, no_fewer done, c.requires.seen)) c.perform.ensures.ok

pub returns-in_default-clause-ok : goal.returns-in_default-clause-ok
returns-in_default-clause-ok c =
    let names = c.args.script.now.names in
    on_ok_weaker c.perform.result
    (λ done. performed_later done names.splits names.workers c.args.lines.now.turns.seen
    c.args.lines.now.turns.each c.is_kept.ensures c.are_in_turn.ensures c.requires.seen)
    c.perform.ensures.ok

pub returns-in_ok-keep_copies-in-Copies-clause-ok : goal.returns-in_ok-keep_copies-in-Copies-clause-ok
returns-in_ok-keep_copies-in-Copies-clause-ok c =
    rw c.in-Copies.is (c.in_ok-keep_copies-in-Copies.ensures.ok c.args.script.now.names)
