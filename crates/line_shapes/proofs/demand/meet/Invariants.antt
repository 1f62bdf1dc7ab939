use Rattle.std.proofs.Common.{ℕ, List, ◌<◌, Bor}
use Rattle.std.specs.Prelude.{slice_index_or}
use Rattle.line_shapes.specs.Demands.{MeetsDemand}
use Rattle.line_shapes.specs.Places.{place_at}
use Rattle.line_shapes.proofs.demand.meet.Given as goal

abbrev pub invariant-loop-i : goal.invariant-loop-i
invariant-loop-i l = (k : ℕ) (d : Bor (List ℕ)) → k < l.i
    → MeetsDemand l.demand (place_at l.keyword k) (slice_index_or l.words k d).now
