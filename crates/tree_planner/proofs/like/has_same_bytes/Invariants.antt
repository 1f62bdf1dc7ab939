use Rattle.std.proofs.Common.{◌≡◌, ℕ, ◌<◌}
use Rattle.wave_problem.specs.Wave.{split_at}
use Rattle.tree_planner.proofs.like.has_same_bytes.Given as goal

abbrev pub invariant-loop-s : goal.invariant-loop-s
invariant-loop-s l = (k : ℕ) → k < l.s → (split_at l.other k).bytes ≡ (split_at l.one k).bytes
