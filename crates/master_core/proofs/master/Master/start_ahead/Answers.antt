use Rattle.std.proofs.Common.{◌≡◌, length, ap, ◌∙◌, arith, sym}
use Rattle.wave_problem.specs.Assignment.{pairs_of}
use Rattle.wave_planner.proofs.Costed.{pairs_few}
use Rattle.master_state.specs.Refusals.{has_no_room}
use Rattle.master_core.proofs.master.Master.start_ahead.Goals as goal

pub has_no_room-requires : goal.has_no_room-requires
has_no_room-requires c =
    let plan = c.in-Ok.ensures.plan in
    omega (arith, pairs_few c.in-Ok.queued.heads.starts, plan.few, ap length plan.pairs, c.len.ensures)

pub start_heads-wave-requires-clause-room : goal.start_heads-wave-requires-clause-room
start_heads-wave-requires-clause-room c =
    let job = c.queue_plan.new.self in
    let starts = c.in-Ok.queued.heads.starts in
    let same : length (pairs_of starts) ≡ c.len.result =
    omega (arith, c.len.ensures, ap length c.in-Ok.ensures.plan.pairs) in
    ap (has_no_room job.setup job.state) same
    ∙ sym c.has_no_room.ensures ∙ c.if-has_no_room.false
