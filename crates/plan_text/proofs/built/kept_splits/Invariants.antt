use Rattle.std.proofs.Common.{◌≡◌, take}
use Rattle.plan_text.proofs.built.kept_splits.Given as goal

abbrev pub invariant-loop-split : goal.invariant-loop-split
invariant-loop-split l = l.lines.items ≡ take l.split-index l.splits
