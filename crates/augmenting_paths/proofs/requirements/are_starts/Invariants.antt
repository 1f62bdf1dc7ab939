use Rattle.std.proofs.Common.{ℕ, ◌<◌}
use Rattle.augmenting_paths.specs.Shipping.{IsSource}
use Rattle.augmenting_paths.proofs.requirements.are_starts.Given as goal

abbrev pub invariant-loop-k : goal.invariant-loop-k
invariant-loop-k l = (i : ℕ) → i < l.k → IsSource l.arcs l.sources l.sink i
