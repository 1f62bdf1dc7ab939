use Rattle.std.proofs.Common.{ℕ, List, subst}
use Rattle.std.proofs.lemmas.Bool.{false≢true}
use Rattle.tree_flow.specs.Settled.{AreTermsOf}
use Rattle.tree_planner.specs.View.{state_of}
use Rattle.tree_planner.specs.SearchingBack.{IsBlank}
use Rattle.tree_planner.proofs.Standing.{begins_standing}
use Rattle.tree_planner.proofs.kept.Engine.new.Goals as goal

pub invariant_of-result : goal.invariant_of-result
invariant_of-result c = (
  c.in_ok-fixed.ensures,
  begins_standing c.args.problem c.in_ok-tables.tables
      (subst (λ (ps : List (List ℕ)). AreTermsOf c.args.problem ps (state_of c.in_ok-tables.tables).terms)
      c.free.ensures c.in_ok-tables.ensures.terms) c.in_ok-tables.ensures.tables c.in_ok-tables.ensures.fresh,
  subst (λ t. IsBlank t c.in_ok-search_back.search_back) c.tree.ensures.tree c.in_ok-search_back.ensures,
  λ is. absurd (false≢true is),
)
