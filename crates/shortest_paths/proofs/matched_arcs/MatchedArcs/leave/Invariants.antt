use Rattle.std.proofs.Common.{◌≡◌, ℕ, ◌<◌, get_or}
use Rattle.std.specs.Prelude.{◌≢◌}
use Rattle.shortest_paths.proofs.matched_arcs.MatchedArcs.leave.Given as goal

abbrev pub invariant-loop-i : goal.invariant-loop-i
invariant-loop-i l = record {
  same : l.self-inside.0.items ≡ l.fn.self;
  before : (j : ℕ) → j < l.i → get_or l.fn.self j 0 ≢ l.arc;
}
