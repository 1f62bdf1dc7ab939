use Rattle.std.proofs.Common.{arith}
use Rattle.live_master.proofs.Heads.{head_full, head_longer, head_over, head_unfed, head_whole}
use Rattle.live_master.proofs.serving.read_head_line.Goals as goal

pub returns-in-Over-clause-ok : goal.returns-in-Over-clause-ok
returns-in-Over-clause-ok g c =
    head_over _ _ _ _ c.in_ok-read_line.field-0 c.in_ok-read_line.ensures c.requires c.in-Over.is

pub returns-in-Unfed-clause-ok : goal.returns-in-Unfed-clause-ok
returns-in-Unfed-clause-ok g c =
    head_unfed _ _ _ _ c.in_ok-read_line.field-0 c.in_ok-read_line.ensures c.in-Unfed.is

pub returns-then-len-ge-MAX_READ_BYTES-clause-ok : goal.returns-then-len-ge-MAX_READ_BYTES-clause-ok
returns-then-len-ge-MAX_READ_BYTES-clause-ok g c =
    head_full _ _ _ _ c.in_ok-read_line.field-0 c.in_ok-read_line.ensures (omega arith) c.in-Whole.is

pub slice_bounds-head_line_of-count : goal.slice_bounds-head_line_of-count
slice_bounds-head_line_of-count g c =
    let longer = head_longer _ _ _ _ c.in_ok-read_line.field-0 c.in_ok-read_line.ensures c.requires c.in-Whole.is in
    omega (arith, longer)

pub slice_bounds-head_line_of-start : goal.slice_bounds-head_line_of-start
slice_bounds-head_line_of-start g c =
    let longer = head_longer _ _ _ _ c.in_ok-read_line.field-0 c.in_ok-read_line.ensures c.requires c.in-Whole.is in
    omega (arith, longer)

pub returns-clause-ok : goal.returns-clause-ok
returns-clause-ok g c =
    head_whole _ _ _ _ c.in_ok-read_line.field-0 c.in_ok-read_line.ensures _ _ (omega arith) c.in-Whole.is
    c.in_ok-extend_from_slice.ensures.items
