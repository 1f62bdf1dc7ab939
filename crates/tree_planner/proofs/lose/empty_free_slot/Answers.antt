use Rattle.std.proofs.Common.{ℕ, Some, subst}
use Rattle.tree_flow.specs.declared.nodes.TreeNode.TheVariants.{Worker}
use Rattle.tree_planner.specs.Engine.{IsStandingBut}
use Rattle.tree_planner.proofs.Started.{taken_standing}
use Rattle.tree_planner.proofs.lose.empty_free_slot.Goals as goal

pub returns : goal.returns
returns c = record {
  hole = subst (λ (w : ℕ). IsStandingBut c.args.problem.now c.take_slot.new.tables (Some (Worker w)))
      c.index.ensures.value
      (taken_standing c.args.problem.now c.args.tables.now c.take_slot.new.tables c.index.result
      c.requires.standing
      c.take_slot.ensures.tables c.take_slot.ensures.taken);
}
