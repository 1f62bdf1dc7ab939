use Rattle.std.proofs.Common.{ℕ, List, subst}
use Rattle.tree_flow.specs.Settled.{AreTermsOf}
use Rattle.tree_planner.specs.View.{state_of}
use Rattle.tree_planner.proofs.engine.plan_places.Goals as goal

pub returns-clause-certifies : goal.returns-clause-certifies
returns-clause-certifies c =
    c.in_ok-found.ensures.certifies c.args.places.now
    (subst (λ (ps : List (List ℕ)). AreTermsOf c.args.problem.now ps (state_of c.in_ok-tables.tables).terms)
    c.in_ok-copy.ensures c.in_ok-tables.ensures.terms)

pub returns-clause-best : goal.returns-clause-best
returns-clause-best c =
    c.in_ok-found.ensures.best c.args.places.now c.limits-2.ensures.each
    (subst (λ (ps : List (List ℕ)). AreTermsOf c.args.problem.now ps (state_of c.in_ok-tables.tables).terms)
    c.in_ok-copy.ensures c.in_ok-tables.ensures.terms)
