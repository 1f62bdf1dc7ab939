use Rattle.std.proofs.Common.{ℕ, ◌<◌, length, List, Option, subst}
use Rattle.tree_planner.specs.Ends.{Grouped}
use Rattle.tree_planner.specs.Events.{IsOffIfChanged}
use Rattle.tree_planner.specs.View.{state_of}
use Rattle.tree_planner.proofs.Turned.{turned_fixed, turned_standing}
use Rattle.tree_planner.proofs.turn.turn_to.Goals as goal

pub returns-clause-standing : goal.returns-clause-standing
returns-clause-standing c =
    turned_standing c.args.problem.now c.args.next c.withdraw_changed.new.tables c.in_ok-others.others.items
    c.requires.like c.in_ok-others.ensures
    (subst (λ (xs : List (Option Grouped)). (s : ℕ) → s < length c.args.problem.now.splits
    → IsOffIfChanged (state_of c.withdraw_changed.new.tables) xs s) c.deref.ensures.value
    c.in_ok-withdraw_changed.ensures.gone)
    c.in_ok-withdraw_changed.ensures.standing

pub returns-clause-fixed : goal.returns-clause-fixed
returns-clause-fixed c =
    turned_fixed c.args.problem.now c.args.next c.in_ok-others.others.items c.requires.like
    c.in_ok-others.ensures c.args.fixed.now c.put_ends.new.fixed c.requires.fixed c.put_ends.ensures.rest
    c.put_ends.ensures.ends
