-- A plan that prices certify is made over the network with racks.
use Rattle.std.proofs.Common.{ℕ, length, List, arith}
use Rattle.rack_tree.specs.View as tree
use Rattle.wave_problem.specs.Wave.{Wave, IsWithinLimits}
use Rattle.flow_network.specs.declared.kinds.NetworkKind.TheVariants.{Racks}
use Rattle.rack_network.specs.Racks.{IsTree}
use Rattle.rack_network.proofs.Exists.{certified_is_over_racks}
use Rattle.tree_planner.specs.Starting.{AreBestStarts}
use Rattle.wave_planner.specs.Planned.{IsMadeOver}

-- the tree of a problem says where each worker and each rack stands
pub is_tree : (wave : Wave) → IsWithinLimits wave → tree.IsWithinLimits wave.tree → IsTree wave
is_tree wave within tree = record {
  few_splits = within.few_splits;
  few_centres = omega (arith, tree.centres);
  few_racks = omega (arith, tree.racks);
  few_workers = within.few_workers;
  racks = λ w l. tree.known w 0 (let lines = within.one_line_each in omega arith);
  centres = λ r l. tree.centres_known r 0 l;
}

-- so the plan of the best starts is made over that network
pub starts_over_racks : (wave : Wave) (pairs : List (ℕ × ℕ)) → IsWithinLimits wave → tree.IsWithinLimits wave.tree →
    (starts : AreBestStarts wave pairs) → IsMadeOver Racks wave starts.plan starts.prices
starts_over_racks wave pairs within tree starts =
    certified_is_over_racks wave starts.plan (length wave.workers) starts.prices (is_tree wave within tree)
    starts.sizes starts.certifies starts.idle
