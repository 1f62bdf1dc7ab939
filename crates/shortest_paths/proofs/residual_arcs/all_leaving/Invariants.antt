use Rattle.std.proofs.Common.{◌≡◌, ℕ, ◌<◌, ◌≤◌, [], length, get_or}
use Rattle.flow_network.specs.Flows.{leaving_of}
use Rattle.shortest_paths.proofs.residual_arcs.all_leaving.Given as goal

abbrev pub invariant-loop-node : goal.invariant-loop-node
invariant-loop-node g l = record {
  size : length l.lists.items ≡ l.nodes;
  done : (v : ℕ) → v < l.node → get_or l.lists.items v [] ≡ leaving_of l.meter.network.arcs v;
  rest : (v : ℕ) → l.node ≤ v → get_or l.lists.items v [] ≡ [];
}
