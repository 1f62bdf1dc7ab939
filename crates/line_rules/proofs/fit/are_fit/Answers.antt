use Rattle.std.proofs.Common.{ℕ, List, Bor, ◌∙◌, arith, get_or, subst}
use Rattle.std.specs.Prelude.{slice_get}
use Rattle.std.proofs.lemmas.List.{get_or_default}
use Rattle.line_shapes.specs.Places.{or_more, place_at}
use Rattle.line_rules.specs.Entered.{IsFitIn}
use Rattle.line_rules.proofs.Kept.{of_words}
use Rattle.line_rules.proofs.fit.are_fit.Goals as goal
use borrow.Author.Count.{below_more}

pub loop-i-preserved : goal.loop-i-preserved
loop-i-preserved c k d lt =
    let words = c.args.words.now in
    let Fits = IsFitIn c.args.version c.args.rows.now in
    let i = c.loop-i.i in
    let place = c.place_among.ensures
    ∙ (λ j. or_more (slice_get (c.places-places.ensures j) i) (c.more-more.ensures j)) in
    below_more (λ j. (e : Bor (List ℕ)) → Fits (place_at c.args.keyword j) (get_or words j e).now) i
    (λ j below e. c.loop-i.invariant j e below)
    (λ e. subst (λ p. Fits p (get_or words i e).now) place
    (subst (λ (w : Bor (List ℕ)). Fits c.place_among.result w.now)
    (get_or_default words i _ e c.loop-i-test.true) (c.is_fit.ensures c.if-not-is_fit.false)))
    k lt d

pub returns : goal.returns
returns c t =
    of_words (λ i w. IsFitIn c.args.version c.args.rows.now (place_at c.args.keyword i) w) c.args.words.now
    (λ i d lt. c.loop-i.invariant i d (omega (arith, lt, c.loop-i-test.false)))
