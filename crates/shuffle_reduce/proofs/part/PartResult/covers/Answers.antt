use Rattle.std.proofs.Common.{ap, subst, ◌∙◌}
use Rattle.std.specs.Prelude.{◌↔◌, IsTrue}
use Rattle.word_map.proofs.TextLemmas.{same_answer}
use Rattle.shuffle_reduce.specs.Gather.{values_of}
use Rattle.shuffle_reduce.specs.Merged.{AreSameTexts, same_texts}
use Rattle.shuffle_reduce.proofs.CoverLemmas.{Decides-same_texts}
use Rattle.shuffle_reduce.proofs.part.PartResult.covers.Goals as goal

-- the texts of the result are those of its view
pub returns-clause-same : goal.returns-clause-same
returns-clause-same c =
    subst (λ ts. IsTrue c.are_same_texts.result ↔ AreSameTexts ts (values_of c.args.texts.now))
    (ap values_of c.as_slice.ensures.value ∙ ap (λ v. v.texts) c.self.view_is) c.are_same_texts.ensures

pub returns-clause-value : goal.returns-clause-value
returns-clause-value c =
    same_answer c.are_same_texts.result (same_texts c.args.self.now.texts (values_of c.args.texts.now))
    (returns-clause-same c) (Decides-same_texts c.args.self.now.texts (values_of c.args.texts.now))
