use Rattle.std.proofs.Common.{sym, ap, ◌∙◌}
use Rattle.std.proofs.lemmas.Bool.{eqb-true}
use Rattle.std.proofs.lemmas.Slice.Eq.{slice_eq-Decides}
use Rattle.word_map.specs.Texts.{SplitDocuments}
use Rattle.word_map.proofs.TextLemmas.{Decides-document_eq}
use Rattle.word_map.proofs.text.SplitText.is_same.Goals as goal

-- the splits are one, so the texts are one where the documents are
pub returns-then-eq-clause-same : goal.returns-then-eq-clause-same
returns-then-eq-clause-same c =
    let mine = c.as_slice.ensures.value in
    let theirs = c.as_slice-then-eq.ensures.value in
    let split = eqb-true c.self.inside.split c.other.inside.split (sym c.if-eq.ensures) in
    let decides =
    slice_eq-Decides Decides-document_eq c.as_slice.result.now c.as_slice-then-eq.result.now
    c.eq-then-eq.result c.eq-then-eq.ensures in (
      (λ yes.
          let documents = sym mine ∙ decides.0 yes ∙ theirs in
          sym c.self.view_is ∙ (λ i. record { split = split i; documents = documents i }) ∙ c.other.view_is),
      (λ same. decides.1 (mine ∙ ap (λ (t : SplitDocuments). t.documents) (c.self.view_is ∙ same
          ∙ sym c.other.view_is) ∙ sym theirs)),
    )
