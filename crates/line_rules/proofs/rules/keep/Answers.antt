use Rattle.std.proofs.Common.{ℕ, List, Bor, arith, get_or, refl, subst}
use Rattle.std.proofs.lemmas.List.{get_or_default}
use Rattle.line_shapes.specs.Places.{place_at}
use Rattle.line_rules.specs.Faults.{KeepsTo}
use Rattle.line_rules.proofs.Kept.{of_words}
use Rattle.line_rules.proofs.rules.keep.Goals as goal
use borrow.Author.Count.{below_more}

pub loop-i-preserved : goal.loop-i-preserved
loop-i-preserved c k d lt =
    let words = c.args.line.now.words.now in
    let Keeps = KeepsTo c.args.rule c.args.rows.now in
    below_more (λ j. (e : Bor (List ℕ)) → Keeps (place_at c.args.line.now.keyword j) (get_or words j e).now)
    c.loop-i.i
    (λ j below e. c.loop-i.invariant j e below)
    (λ e. subst (λ place. Keeps place (get_or words c.loop-i.i e).now) c.place.ensures
    (subst (λ (w : Bor (List ℕ)). Keeps c.place.result w.now)
    (get_or_default words c.loop-i.i _ e c.loop-i-test.true) (c.keeps_to.ensures.0 c.if-not-keeps_to.false)))
    k lt d

pub returns : goal.returns
returns c =
    let line = c.args.line.now in (
      λ t. of_words (λ i w. KeepsTo c.args.rule c.args.rows.now (place_at line.keyword i) w) line.words.now
          (λ i d lt. c.loop-i.invariant i d (omega (arith, lt, c.loop-i-test.false))),
      λ h. refl,
    )
