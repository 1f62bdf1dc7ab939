-- The racks and centres of a problem are known.
use Rattle.std.proofs.Common.{arith}
use Rattle.rack_tree.specs.View as tree
use Rattle.wave_problem.specs.Wave.{Wave, IsWithinLimits}
use Rattle.tree_flow.specs.Nodes.{IsKnown}

pub is_known : (wave : Wave) → IsWithinLimits wave → tree.IsWithinLimits wave.tree → IsKnown wave
is_known wave within limits = record {
  lines = within.one_line_each;
  racks = λ w l. limits.known w 0 (let lines = within.one_line_each in omega arith);
  centres = λ r l. limits.centres_known r 0 l;
}
