use Rattle.std.proofs.Common.{◌≤◌, refl, subst, sym, ◌∙◌}
use Rattle.std.proofs.lemmas.Bool.{false≢true}
use Rattle.rack_tree.specs.Tree.{Tree, AreCentresKnown}
use Rattle.rack_tree.specs.declared.TheConstants.{MAX_WORKERS}
use Rattle.rack_tree.proofs.Distances.{within_reach}
use Rattle.wave_problem.proofs.Made.{moved_held, moved_small, within}
use Rattle.wave_problem.proofs.problem.Problem.new.Goals as goal

pub returns-then-not-are_held_well-clause-holder : goal.returns-then-not-are_held_well-clause-holder
returns-then-not-are_held_well-clause-holder c = (
  λ same. (
    moved_small _ _ _ _ c.deref.ensures.value c.deref-2.ensures.value
        (c.are_small.ensures.0 c.if-not-are_small.false),
    λ held. false≢true (sym c.if-not-are_held_well.true ∙ c.are_held_well.ensures.1
        (moved_held _ _ _ _ (c.requires ∙ sym c.workers-count.ensures.count)
        (sym c.deref-3.ensures.value) held)),
  ),
  λ given. refl,
)

pub invariant_of-result : goal.invariant_of-result
invariant_of-result c = within _ _ _ _ _
    (within_reach c.args.tree
    (subst (λ (t : Tree). AreCentresKnown t) c.tree.view_is c.tree.invariant.centres_known)) c.requires
    (subst (λ n. n ≤ MAX_WORKERS) c.workers-count.ensures.count c.workers-count.ensures.most)
    (c.in-Ok.ensures ∙ c.deref-4.ensures.value)
    (moved_small _ _ _ _ c.deref.ensures.value c.deref-2.ensures.value
    (c.are_small.ensures.0 c.if-not-are_small.false))
    (moved_held _ _ _ _ (c.workers-count.ensures.count ∙ sym c.requires) c.deref-3.ensures.value
    (c.are_held_well.ensures.0 c.if-not-are_held_well.false))

pub returns-in-Ok-clause-holder : goal.returns-in-Ok-clause-holder
returns-in-Ok-clause-holder c = (
  λ wrong. cc,
  λ given. absurd (given.1 (moved_held _ _ _ _ (c.workers-count.ensures.count ∙ sym c.requires)
      c.deref-3.ensures.value (c.are_held_well.ensures.0 c.if-not-are_held_well.false))),
)

pub returns-in-Ok-clause-sound : goal.returns-in-Ok-clause-sound
returns-in-Ok-clause-sound c = (
  moved_small _ _ _ _ c.deref.ensures.value c.deref-2.ensures.value
      (c.are_small.ensures.0 c.if-not-are_small.false),
  moved_held _ _ _ _ (c.workers-count.ensures.count ∙ sym c.requires) c.deref-3.ensures.value
      (c.are_held_well.ensures.0 c.if-not-are_held_well.false),
)

pub returns-in-Err-clause-memory : goal.returns-in-Err-clause-memory
returns-in-Err-clause-memory c given = (
  moved_small _ _ _ _ c.deref.ensures.value c.deref-2.ensures.value
      (c.are_small.ensures.0 c.if-not-are_small.false),
  moved_held _ _ _ _ (c.workers-count.ensures.count ∙ sym c.requires) c.deref-3.ensures.value
      (c.are_held_well.ensures.0 c.if-not-are_held_well.false),
)

pub returns-in-Err-clause-holder : goal.returns-in-Err-clause-holder
returns-in-Err-clause-holder c = (
  λ wrong. cc,
  λ given. absurd (given.1 (moved_held _ _ _ _ (c.workers-count.ensures.count ∙ sym c.requires)
      c.deref-3.ensures.value (c.are_held_well.ensures.0 c.if-not-are_held_well.false))),
)
