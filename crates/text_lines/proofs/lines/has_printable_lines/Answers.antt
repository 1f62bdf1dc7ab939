use Rattle.std.proofs.Common.{ℕ, List, [], ◌∷◌, ◌≡◌, ◌==◌, Bool, true, false, inl, inr, refl, subst, sym}
use Rattle.std.proofs.Common.{true≢false, ◌∙◌}
use Rattle.std.specs.List.{All, onto_first}
use Rattle.std.proofs.lemmas.List.Elements.{All-cons, All-head, All-nil, All-tail}
use Rattle.std.proofs.lemmas.List.Splits.{slice_split-cons_no, slice_split-cons_yes}
use Rattle.text_lines.specs.Texts.{IsOfLine, IsPrintable, Line, lines_of}
use Rattle.text_lines.proofs.lines.has_printable_lines.Goals as goal

abbrev is_feed : ℕ → Bool
is_feed b = b == 10

abbrev ArePrintable : List Line → Type 0
ArePrintable lines = All (All IsPrintable) lines

onto_printable : (b : ℕ) (lines : List Line) → IsPrintable b → ArePrintable lines
    → ArePrintable (onto_first b lines)
onto_printable b [] one all =
    All-cons (All IsPrintable) (b ∷ []) [] (All-cons IsPrintable b [] one (All-nil IsPrintable)) all
onto_printable b (line ∷ lines) one all =
    All-cons (All IsPrintable) (b ∷ line) lines
    (All-cons IsPrintable b line one (All-head (All IsPrintable) line lines all))
    (All-tail (All IsPrintable) line lines all)

no_feed : (b : ℕ) → is_feed b ≡ false → IsOfLine b → IsPrintable b
no_feed b other (inl feed) = absurd (true≢false (sym (rw feed refl) ∙ other))
no_feed b other (inr one) = one

lines_printable : (text : List ℕ) → All IsOfLine text → ArePrintable (lines_of text)
lines_printable [] all = All-cons (All IsPrintable) [] [] (All-nil IsPrintable) (All-nil (All IsPrintable))
lines_printable (b ∷ text) all = by (is_feed b) refl (lines_printable text (All-tail IsOfLine b text all))
  where
    by : (is : Bool) → is_feed b ≡ is → ArePrintable (lines_of text) → ArePrintable (lines_of (b ∷ text))
    by true is rest =
        subst ArePrintable (sym (slice_split-cons_yes is_feed b text is))
        (All-cons (All IsPrintable) [] (lines_of text) (All-nil IsPrintable) rest)
    by false is rest =
        subst ArePrintable (sym (slice_split-cons_no is_feed b text is))
        (onto_printable b (lines_of text) (no_feed b is (All-head IsOfLine b text all)) rest)

pub returns : goal.returns
returns c t = lines_printable c.args.text.now (c.are_of_lines.ensures t)
