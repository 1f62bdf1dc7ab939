use Rattle.std.proofs.Common.{ℕ, ◌<◌, get_or}
use Rattle.std.specs.Prelude.{slice_index}
use Rattle.flow_network.specs.Flows.{arc_at, NoNegativeArc}
use Rattle.shortest_paths.proofs.pricing.are_priced.Given as goal

abbrev pub invariant-loop-k : goal.invariant-loop-k
invariant-loop-k l = (i : ℕ) → i < l.k →
    NoNegativeArc (slice_index l.depths) (arc_at l.arcs i) (get_or l.flows i 0)
