use Rattle.std.proofs.Common.{◌≡◌, ℕ, ◌<◌, ◌≤◌, length}
use Rattle.std.specs.Prelude.{unwrap_or}
use Rattle.tree_planner.specs.Ends.{ends_at}
use Rattle.tree_planner.specs.Events.{other_at}
use Rattle.tree_planner.proofs.turn.put_ends.Given as goal

abbrev pub invariant-loop-s : goal.invariant-loop-s
invariant-loop-s l = record {
  rest : l.fixed ≡ record l.fn.fixed { ends = l.fixed.ends };
  size : length l.fixed.ends ≡ length l.fn.fixed.ends;
  count : length l.others.items ≡ length l.fn.others.items;
  put : (k : ℕ) → k < l.s → ends_at l.fixed.ends k
      ≡ unwrap_or (other_at l.fn.others.items k) (ends_at l.fn.fixed.ends k);
  left : (k : ℕ) → l.s ≤ k → ends_at l.fixed.ends k ≡ ends_at l.fn.fixed.ends k;
  later : (k : ℕ) → l.s ≤ k → other_at l.others.items k ≡ other_at l.fn.others.items k;
}
