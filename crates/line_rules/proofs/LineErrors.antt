-- A line that says a fit statement has no fault, and begins with a keyword.
use Rattle.std.proofs.Common.{◌≡◌, ◌∙◌, List, Bor, Option, ◌∷◌, ℕ, ap, subst, sym}
use Rattle.text_lines.specs.Texts.{Line, Word}
use Rattle.text_lines.specs.declared.fault.Fault.{Fault}
use Rattle.text_lines.specs.declared.fault.Fault.TheVariants.{Shape, TooLong, NoFeed, Unprintable, AfterEnd}
use Rattle.line_shapes.specs.Keywords.{spelling_of}
use Rattle.line_shapes.specs.Lines.{IsShaped, Says, Statement, words_after, words_in}
use Rattle.line_shapes.specs.declared.keyword.Keyword.{Keyword}
use Rattle.line_rules.specs.Known.{Known}
use Rattle.line_rules.specs.Faults.{Fails, IsFit}
use Rattle.line_rules.specs.Texts.{IsLegible, LineHas}
use Rattle.line_rules.proofs.Fits.{fit_faultless}
use Rattle.line_shapes.proofs.OneStatement.{says-unique}
use Rattle.line_rules.specs.Reading.{HasKeyword, IsCut, IsFitLine}

-- a statement that the line says is the one that it says
same_fault : (k : Known) (line : Line) (s t : Statement) → Says line s → Says line t → (f : Fault)
    → Fails k t f → Fails k s f
same_fault k line s t one other f h = subst (λ u. Fails k u f) (says-unique line t s other one) h

-- a fault of the line is one of the statement
fault_of_statement : (k : Known) (line : Line) (s : Statement) → IsLegible k line → Says line s
    → (f : Fault) → LineHas k line f → Fails k s f
fault_of_statement k line s sound says Shape h = h.1 s says
fault_of_statement k line s sound says TooLong h = absurd h
fault_of_statement k line s sound says NoFeed h = absurd h
fault_of_statement k line s sound says Unprintable h = absurd (h sound.0)
fault_of_statement k line s sound says AfterEnd h = absurd (sound.1 h)
fault_of_statement k line s sound says f h = same_fault k line s h.1.0 says h.1.1 f h.1.2

-- a sound line that says a fit statement has no fault
pub line_faultless : (k : Known) (line : Line) (s : Statement) → IsLegible k line → Says line s → IsFit k s
    → (f : Fault) → LineHas k line f → ⊥
line_faultless k line s sound says fit f h = fit_faultless k s fit f
    (fault_of_statement k line s sound says f h)

-- the line that says a statement begins with its keyword
pub has_keyword : (k : Known) (line : Line) (keyword : Keyword) (words : List Word) → IsLegible k line
    → words_in keyword line ≡ spelling_of keyword ∷ words → HasKeyword k line
has_keyword k line keyword words sound begins =
    record { legible = sound; keyword = keyword; words = words; begins = begins }

-- the line that begins with a keyword and its words says them, where they have their shapes
pub cut_fit : (k : Known) (line : Line) (rest : Option (Bor (List ℕ))) (s : Statement)
    → s.words ≡ words_after s.keyword rest → IsShaped s → IsFit k s → IsCut k line s.keyword rest
    → IsFitLine k line s
cut_fit k line rest s words shaped fit cut = record {
  printable = cut.legible.0;
  not_ended = cut.legible.1;
  says = record {
    spelled = cut.begins ∙ ap (λ ws. spelling_of s.keyword ∷ ws) (sym words);
    many = shaped.many;
    shape = shaped.shape;
  };
  fit = fit;
}
