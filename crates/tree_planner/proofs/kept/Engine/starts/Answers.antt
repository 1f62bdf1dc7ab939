use Rattle.std.proofs.Common.{◌≡◌, ◌∙◌, None, ap, sym, subst}
use Rattle.std.specs.Prelude.{◌≢◌}
use Rattle.tree_flow.specs.declared.nodes.Place.TheVariants.{Unshipped}
use Rattle.tree_flow.specs.State.{State, place_of, IsKept}
use Rattle.tree_planner.specs.Shown.{state_in, Shown}
use Rattle.tree_planner.specs.Starting.{AreBestStarts}
use Rattle.tree_planner.specs.View.{state_of}
use Rattle.tree_planner.proofs.Certifying.{best_starts}
use Rattle.tree_planner.proofs.Standing.{stands_as_deep}
use Rattle.tree_planner.proofs.kept.Engine.starts.Goals as goal

pub invariant_of-self : goal.invariant_of-self
invariant_of-self c =
    let e = c.self.inside in
    let inv = c.self.invariant in
    let new = c.shorten_lists.new.tables in
    let same : state_of new ≡ state_of e.tables = ap state_of c.shorten_lists.ensures.rest in (
      inv.0,
      stands_as_deep e.problem e.tables new None None inv.1 (ap (λ (s : State). s.terms) same)
          (ap (λ (s : State). s.depth) same) c.shorten_lists.ensures.tables
          (subst (IsKept e.problem) (sym same) inv.1.kept),
      inv.2,
      (λ is s l. subst (λ (x : State). place_of x s ≢ Unshipped) (sym same) (inv.3 is s l)),
    )

pub returns-clause-best : goal.returns-clause-best
returns-clause-best c =
    let e = c.self.inside in
    subst (λ (x : Shown). AreBestStarts x.wave c.in_ok-pairs.pairs.items) c.self.view_is
    (best_starts e.problem e.tables c.in_ok-pairs.pairs.items c.limits.ensures.problem.near
    c.self.invariant.0.known c.self.invariant.1 c.in_ok-pairs.ensures)

pub returns-clause-state : goal.returns-clause-state
returns-clause-state c =
    ap state_of c.shorten_lists.ensures.rest ∙ ap (λ (x : Shown). state_in x) c.self.view_is
