use Rattle.std.proofs.Common.{sym, ◌∙◌, arith}
use Rattle.std.proofs.lemmas.Bool.{false≢true}
use Rattle.shuffle_reduce.proofs.CoverLemmas.{same_at}
use Rattle.shuffle_reduce.proofs.covers.are_equal_texts.Goals as goal

pub returns-then-not-is_same : goal.returns-then-not-is_same
returns-then-not-is_same c = (
  (λ accepted. absurd (false≢true accepted)),
  (λ same.
      let here = same_at c.args.texts.now c.args.others.now c.loop-place.place c.index-texts-place.result
      c.index-others-place.result (omega arith) (omega arith) c.index-texts-place.is c.index-others-place.is
      same in
      sym c.if-not-is_same.true
      ∙ c.is_same.ensures.same.1 (c.deref.ensures ∙ here ∙ sym c.deref-in-loop-place.ensures)),
)
