use Rattle.std.proofs.Common.{refl, sym, ◌∙◌, subst}
use Rattle.std.proofs.lemmas.Bool.{false≢true}
use Rattle.rack_tree.specs.Tree.{Tree}
use Rattle.rack_tree.specs.View as tree
use Rattle.master_core.proofs.Whole.{whole_from}
use Rattle.master_core.proofs.cluster.Cluster.new.Goals as goal

pub returns-then-not-are_held_well-clause-holder : goal.returns-then-not-are_held_well-clause-holder
returns-then-not-are_held_well-clause-holder c = (
  λ same. (
    rw (c.deref.ensures.value, c.deref-2.ensures.value)
        at (c.are_few_and_small.ensures.0 c.if-not-are_few_and_small.false),
    λ held. false≢true (sym c.if-not-are_held_well.true
        ∙ c.are_held_well.ensures.1 (rw c.deref-3.ensures.value held)),
  ),
  λ given. refl,
)

pub invariant_of-result : goal.invariant_of-result
invariant_of-result c =
    whole_from c.args.tree c.args.slots.now c.in-Ok.slots.items c.args.splits.items c.args.texts.items
    c.args.parts
    c.args.silence c.args.holder_limit (c.in-Ok.ensures.items_if_clones_equal (λ _ _ e. e))
    (subst (λ (t : Tree). tree.IsWithinLimits t) c.tree.view_is c.tree.invariant)
    c.requires.workers c.requires.texts c.requires.parts c.requires.silence
    (rw (c.deref.ensures.value, c.deref-2.ensures.value)
    at (c.are_few_and_small.ensures.0 c.if-not-are_few_and_small.false))
    (rw c.deref-3.ensures.value at (c.are_held_well.ensures.0 c.if-not-are_held_well.false))

pub returns-in-Ok-clause-holder : goal.returns-in-Ok-clause-holder
returns-in-Ok-clause-holder c = (
  λ wrong. cc,
  λ given. absurd (given.1
      (rw c.deref-3.ensures.value at (c.are_held_well.ensures.0 c.if-not-are_held_well.false))),
)

pub returns-in-Err-clause-holder : goal.returns-in-Err-clause-holder
returns-in-Err-clause-holder c = (
  λ wrong. cc,
  λ given. absurd (given.1
      (rw c.deref-3.ensures.value at (c.are_held_well.ensures.0 c.if-not-are_held_well.false))),
)

pub returns-in-Err-clause-memory : goal.returns-in-Err-clause-memory
returns-in-Err-clause-memory c same = (
  rw (c.deref.ensures.value, c.deref-2.ensures.value)
      at (c.are_few_and_small.ensures.0 c.if-not-are_few_and_small.false),
  rw c.deref-3.ensures.value at (c.are_held_well.ensures.0 c.if-not-are_held_well.false),
)
