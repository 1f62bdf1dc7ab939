use Rattle.std.proofs.Common.{◌∙◌, sym}
use Rattle.std.proofs.lemmas.Bool.{false≢true}
use Rattle.std.proofs.lemmas.Result.{on_ok_weaker}
use Rattle.job_play.proofs.Started.{holds_put, part_waits}
use Rattle.job_play.proofs.Writing.{reduce_accepted, reduce_ignored}
use Rattle.job_play.proofs.performing.reduce.Goals as goal

pub put-requires : goal.put-requires
put-requires c =
    part_waits _ _ c.args.given.now _ _ c.is_kept.ensures c.in-Accepted.ensures.0 c.in-Accepted.ensures.1
    c.requires

pub returns-in_ok-add_reduce-in-Accepted-clause-given : goal.returns-in_ok-add_reduce-in-Accepted-clause-given
returns-in_ok-add_reduce-in-Accepted-clause-given c =
    let inside = part_waits _ _ c.args.given.now _ _ c.is_kept.ensures c.in-Accepted.ensures.0
    c.in-Accepted.ensures.1 c.requires in
    rw c.put.ensures
    (holds_put _ _ c.args.given.now _ _ c.in-Accepted.ensures.0 c.in-Accepted.ensures.1 inside c.requires)

pub returns-in_ok-add_reduce-in-Accepted-clause-ok : goal.returns-in_ok-add_reduce-in-Accepted-clause-ok
returns-in_ok-add_reduce-in-Accepted-clause-ok c = λ target.
    reduce_accepted c.args.names.now target _ _ _ _ _ _ _ c.in-Accepted.ensures.0 c.in-Accepted.ensures.1
    c.in_ok-add_accepted-in-Accepted.ensures c.in_ok-add_reduce-in-Accepted.ensures

pub returns-in-Ignored-2-clause-ok : goal.returns-in-Ignored-2-clause-ok
returns-in-Ignored-2-clause-ok c = λ target. on_ok_weaker _
    (λ next. reduce_ignored _ target _ _ c.in-Ignored.why _ _ c.in-Ignored.ensures
    (λ e. false≢true (sym c.if-eq.false ∙ rw e at c.eq.ensures)) next)
    c.add_ignored.ensures
