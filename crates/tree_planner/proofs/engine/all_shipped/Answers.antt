use Rattle.std.proofs.Common.{◌∙◌, arith, subst, sym}
use Rattle.tree_flow.specs.Settled.{AreTermsOf}
use Rattle.tree_planner.proofs.Standing.{begins_held}
use Rattle.tree_planner.proofs.engine.all_shipped.Goals as goal

pub ship_in_order-requires-clause-held : goal.ship_in_order-requires-clause-held
ship_in_order-requires-clause-held c =
    let small = c.requires.small in
    let reward = c.requires.worth in
    let worth = c.in_ok-tables.ensures.terms.worth in
    let total = c.total.ensures.total in
    let most = c.total.ensures.most in
    begins_held c.args.problem.now c.in_ok-tables.tables (omega arith) c.in_ok-tables.ensures.tables
    c.in_ok-tables.ensures.fresh

pub returns-clause-terms : goal.returns-clause-terms
returns-clause-terms c =
    subst (λ terms. AreTermsOf c.args.problem.now c.args.places terms)
    (sym (c.ship_rest.ensures.terms ∙ c.ship_in_order.ensures.terms)) c.in_ok-tables.ensures.terms
