use Rattle.std.proofs.Common.{◌<◌, All}
use Rattle.std.specs.Prelude.{take}
use Rattle.node_ids.proofs.sets.SplitSet.are_below.Given as goal

abbrev pub invariant-loop-split : goal.invariant-loop-split
invariant-loop-split l = All (λ split. split < l.splits) (take l.split-index l.split-items)
