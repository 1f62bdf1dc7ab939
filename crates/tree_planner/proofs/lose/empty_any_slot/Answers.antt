use Rattle.std.proofs.Common.{ℕ, List, subst, sym}
use Rattle.tree_planner.specs.Handing.{AreHandedDown}
use Rattle.tree_planner.specs.View.{state_of}
use Rattle.tree_planner.proofs.lose.empty_any_slot.Goals as goal

pub pull_from-requires-clause-down : goal.pull_from-requires-clause-down
pull_from-requires-clause-down c =
    subst (λ (ps : List (ℕ × ℕ)). AreHandedDown c.args.problem.now (state_of c.settle.new.tables) ps)
    (sym c.deref.ensures.value) c.in_ok-pairs.ensures
