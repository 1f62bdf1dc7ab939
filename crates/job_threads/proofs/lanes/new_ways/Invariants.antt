use Rattle.std.proofs.Common.{◌≡◌, map, take}
use Rattle.lane_queue.specs.Lanes.{LaneValue}
use Rattle.job_threads.specs.Closing.{first_pass, lane_places}
use Rattle.job_threads.proofs.lanes.new_ways.Given as goal

abbrev pub invariant-loop-slots : goal.invariant-loop-slots
invariant-loop-slots l = record {
  places : map (λ (way : LaneValue). way.capacity) l.ways.items
      ≡ map lane_places (take l.slots-index l.fn.slots);
  passes : l.passes.items ≡ map first_pass l.ways.items;
}
