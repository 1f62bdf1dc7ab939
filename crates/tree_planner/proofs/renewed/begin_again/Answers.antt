use Rattle.std.proofs.Common.{ℕ, List, subst}
use Rattle.tree_flow.specs.Settled.{AreTermsOf}
use Rattle.tree_planner.specs.View.{state_of}
use Rattle.tree_planner.proofs.Standing.{begins_standing}
use Rattle.tree_planner.proofs.renewed.begin_again.Goals as goal

pub returns-clause-standing : goal.returns-clause-standing
returns-clause-standing c =
    let wave = c.args.problem.now in
    let fresh = c.in_ok-fresh.fresh in
    begins_standing wave fresh
    (subst (λ (ps : List (List ℕ)). AreTermsOf wave ps (state_of fresh).terms) c.free.ensures
    c.in_ok-fresh.ensures.terms) c.in_ok-fresh.ensures.tables c.in_ok-fresh.ensures.fresh
