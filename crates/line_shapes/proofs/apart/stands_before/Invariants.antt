use Rattle.std.proofs.Common.{◌<◌, ◌≢◌, ℕ, List, Bor}
use Rattle.std.specs.List.{slice_index_or}
use Rattle.line_shapes.proofs.apart.stands_before.Given as goal

abbrev pub invariant-loop-k : goal.invariant-loop-k
invariant-loop-k l = (k : ℕ) (d : Bor (List ℕ)) → k < l.k
    → (slice_index_or l.names k d).now ≢ (slice_index_or l.names l.i d).now
