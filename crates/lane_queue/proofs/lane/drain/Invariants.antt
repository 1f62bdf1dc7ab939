use Rattle.std.proofs.Common.{◌≡◌, ◌≤◌, ◌++◌, vec_len, vec_capacity}
use Rattle.crossbeam_queue.specs.Passes.{view, IsPassOf, ruled_capacity}
use Rattle.lane_queue.specs.Steps.{hand}
use Rattle.lane_queue.proofs.lane.drain.Given as goal

abbrev pub invariant-loop : goal.invariant-loop
invariant-loop g l =
    let was = view l.fn.token in
    IsPassOf l.queue l.token
    × (view l.token ≡ hand was.puts (was.takes ++ l.left.items) was.depths was.ordered)
    × (l.count ≤ vec_capacity l.left) × (vec_len l.left ≡ l.counter) × (l.count ≤ ruled_capacity l.queue)
