use Rattle.std.proofs.Common.{◌≡◌, ℕ, ◌<◌, get_or}
use Rattle.wave_problem.specs.Wave.{worker_at}
use Rattle.tree_planner.proofs.like.has_same_holders.Given as goal

abbrev pub invariant-loop-k : goal.invariant-loop-k
invariant-loop-k l = record {
  holders : (i : ℕ) → i < l.k → get_or l.after i 0 ≡ get_or l.before i 0;
  live : (i : ℕ) → i < l.k → (worker_at l.other (get_or l.after i 0)).live
      ≡ (worker_at l.one (get_or l.before i 0)).live;
}
