use Rattle.std.proofs.Common.{◌<◌, ◌≢◌, ℕ, List, Bor}
use Rattle.std.specs.List.{slice_index_or}
use Rattle.line_shapes.proofs.apart.differ.Given as goal

abbrev pub invariant-loop-i : goal.invariant-loop-i
invariant-loop-i l =
    (a b : ℕ) (d : Bor (List ℕ)) → a < b → b < l.i
    → (slice_index_or l.names a d).now ≢ (slice_index_or l.names b d).now
