-- Documents that compare alike are one, and so are texts.
use Rattle.std.proofs.Common.{◌≡◌, Bool, true, false, ◌&&◌, eqb, refl, arith}
use Rattle.std.specs.Prelude.{◌↔◌, IsTrue}
use Rattle.std.specs.Bool.{Decides}
use Rattle.std.specs.Cmp.Lexicographic.{pointwise}
use Rattle.std.proofs.lemmas.Bool.Decides.{Decides-eqb}
use Rattle.std.proofs.lemmas.Slice.Eq.{slice_eq-Decides, bytes_eq-Decides}
use Rattle.std.specs.Cmp.{both_ways}
use Rattle.word_map.specs.declared.text.Document.{Document}
use Rattle.word_map.specs.Texts.{SplitDocuments, same_text}

abbrev pub document_eq : Document → Document → Bool
document_eq a b = eqb a.number b.number && pointwise eqb a.text b.text

both_true : (x y : Bool) → (x && y) ≡ true → (x ≡ true) × (y ≡ true)
both_true true y h = (refl, h)
both_true false y h = absurd (grind arith)

true_both : (x y : Bool) → x ≡ true → y ≡ true → (x && y) ≡ true
true_both x y a b = rw (a, b) refl

pub Decides-document_eq : (a b : Document) → Decides (document_eq a b) (a ≡ b)
Decides-document_eq a b = grind (arith, both_true, Decides-eqb, bytes_eq-Decides, true_both)

pub Decides-same_text : (a b : SplitDocuments) → Decides (same_text a b) (a ≡ b)
Decides-same_text a b =
    grind (arith, slice_eq-Decides, Decides-document_eq, both_true, Decides-eqb, true_both)

-- two tests that decide the same have the same answer
pub same_answer : {P : Type 0} (answer test : Bool) → IsTrue answer ↔ P → Decides test P → answer ≡ test
same_answer answer test exact decides = both_ways answer test (λ yes. decides.1 (exact.0 yes))
    (λ yes. exact.1 (decides.0 yes))
