use Rattle.std.proofs.Common.{◌≡◌, ◌<◌, ◌++◌, List, length, vec_len}
use Rattle.std.specs.List.{All}
use Rattle.crossbeam_queue.specs.Passes.{view, IsPassOf}
use Rattle.lane_queue.specs.Lanes.{PassValue, depths_of}
use Rattle.lane_queue.proofs.Gathers.{gathered}
use Rattle.lane_queue.proofs.lane.gather.Given as goal

abbrev pub invariant-loop-pass : goal.invariant-loop-pass
invariant-loop-pass l =
    IsPassOf l.queue l.token × All (λ p. p.lane ≡ l.queue.table.shared.table_id) l.passes.items
    × ((cs : List PassValue) × (l.fn.passes.items ≡ l.passes.items ++ cs) × (0 < length (depths_of cs))
    × (view l.token ≡ gathered cs))

abbrev pub decreases-loop-pass : goal.decreases-loop-pass
decreases-loop-pass l = vec_len l.passes
