use Rattle.live_master.proofs.Served.{lines_over, lines_stopped, lines_told, lines_unfed}
use Rattle.live_master.proofs.serving.serve_lines.Goals as goal

pub returns-in_err-talk : goal.returns-in_err-talk
returns-in_err-talk g c =
    lines_stopped _ _ _ _ _ _ c.in_err-talk.field-0.0 c.from_residual.result c.from_residual.ensures.1
    c.in_err-talk.ensures.talked

pub returns-in-Told : goal.returns-in-Told
returns-in-Told g c =
    lines_told _ _ _ _ _ _ c.in_ok-talk.field-0 c.in_ok-talk.ensures.talked c.end.result c.in-Told.is c.end.ensures

pub returns-in-Over : goal.returns-in-Over
returns-in-Over g c =
    lines_over _ _ _ _ _ _ c.in_ok-talk.field-0 c.in_ok-talk.ensures.talked _ c.cut_off.result c.in-Over.is
    c.cut_off.ensures

pub returns-in-Unfed : goal.returns-in-Unfed
returns-in-Unfed g c =
    lines_unfed _ _ _ _ _ _ c.in_ok-talk.field-0 c.in_ok-talk.ensures.talked _ c.cut_off-in-Unfed.result
    c.in-Unfed.is c.cut_off-in-Unfed.ensures
