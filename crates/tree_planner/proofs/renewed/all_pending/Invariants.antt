use Rattle.std.proofs.Common.{◌≡◌, ℕ, ◌<◌, false, length, get_or}
use Rattle.wave_problem.specs.Wave.{split_at}
use Rattle.tree_planner.proofs.renewed.all_pending.Given as goal

abbrev pub invariant-loop-s : goal.invariant-loop-s
invariant-loop-s l = record {
  size : length l.pending.items ≡ l.s;
  each : (k : ℕ) → k < l.s → get_or l.pending.items k false ≡ (split_at l.problem k).pending;
}
