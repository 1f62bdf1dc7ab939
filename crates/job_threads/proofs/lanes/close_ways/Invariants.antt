use Rattle.std.proofs.Common.{◌≡◌, ◌++◌, List, vec_len}
use Rattle.lane_queue.specs.Lanes.{LaneValue, PassValue}
use Rattle.job_threads.specs.Closing.{AreHandedOver}
use Rattle.job_threads.proofs.lanes.close_ways.Given as goal

-- the lanes from some number on are closed
abbrev pub invariant-loop-way : goal.invariant-loop-way
invariant-loop-way g l =
    (closed : List LaneValue) × (os : List PassValue) × (ts : List PassValue)
    × (g.L.Aim.lanes ≡ l.ways.items ++ closed) × (l.fn.ours.items ≡ l.ours.items ++ os)
    × (l.fn.theirs.items ≡ l.theirs.items ++ ts) × AreHandedOver os ts

abbrev pub decreases-loop-way : goal.decreases-loop-way
decreases-loop-way g l = vec_len l.ways
