-- What is read of a text, line by line.
use Rattle.std.specs.Prelude.{ℕ, List, Option, [], ◌∷◌, ◌≡◌, ◌≢◌, ◌≤◌, length, take}
use Rattle.std.specs.List.{All}
use Rattle.std.specs.Borrow.{Bor}
use Rattle.text_lines.specs.Streams.{longest}
use Rattle.text_lines.specs.Texts.{IsPrintable, Line, Word, lines_of}
use Rattle.text_lines.specs.declared.fault.Fault.{Fault}
use Rattle.line_shapes.specs.Keywords.{spelling_of}
use Rattle.line_shapes.specs.Lines.{Says, Statement, words_after, words_in}
use Rattle.line_shapes.specs.declared.keyword.Keyword.{Keyword}
use Rattle.line_rules.specs.Faults.{IsFit, IsLeastOf}
use Rattle.line_rules.specs.Known.{Known, entered, known_at}
use Rattle.line_rules.specs.Texts.{IsLegible, IsLeastFault, ReadsAs}
use Rattle.line_rules.specs.declared.purpose.Purpose.{Purpose}
use Rattle.line_rules.specs.declared.line_reader.LineError.{LineError}
use Rattle.line_rules.specs.declared.line_reader.LineError.TheVariants as error
use Rattle.line_rules.specs.declared.line_reader.ReadingError.{ReadingError}
use Rattle.line_rules.specs.declared.line_reader.ReadingError.TheVariants as reading
use Rattle.line_rules.specs.declared.section.Section.TheVariants.{Ended}

-- the statement has no fault after these lines, and is known too
pub record Enters (old : Known) (s : Statement) (new : Known) : Type 0 where
  pub fit : IsFit old s
  pub known : new ≡ entered old s

-- the line says a statement, which is entered
pub record Takes (old : Known) (line : Line) (new : Known) : Type 0 where
  pub statement : Statement
  pub printable : All IsPrintable line
  pub not_ended : old.section ≢ Ended
  pub says : Says line statement
  pub enters : Enters old statement new

-- the line has none of the faults that are found without memory: its bytes can be read, no `end` stands
-- before it, and it begins with a keyword
pub record HasKeyword (k : Known) (line : Line) : Type 0 where
  pub legible : IsLegible k line
  pub keyword : Keyword
  pub words : List Word
  pub begins : words_in keyword line ≡ spelling_of keyword ∷ words

-- the line has none of the faults that are found without memory, and begins with this keyword; rest is what
-- follows the space after it
pub record IsCut (k : Known) (line : Line) (keyword : Keyword) (rest : Option (Bor (List ℕ))) : Type 0 where
  pub legible : IsLegible k line
  pub begins : words_in keyword line ≡ spelling_of keyword ∷ words_after keyword rest

-- the fault that is answered is the least of those that apply
abbrev pub IsLeastError : (Fault → Type 0) → LineError → Type 0
IsLeastError P (error.Fault f) = IsLeastOf P f
IsLeastError P error.Memory = Unit {0}

-- the line says the statement, which has no fault after these lines
pub record IsFitLine (k : Known) (line : Line) (s : Statement) : Type 0 where
  pub printable : All IsPrintable line
  pub not_ended : k.section ≢ Ended
  pub says : Says line s
  pub fit : IsFit k s

-- the lines say the statements, each without a fault after those before it
abbrev pub AreFitLines : Known → List Line → List Statement → Type 0
AreFitLines k [] [] = Unit {0}
AreFitLines k (line ∷ lines) (s ∷ ss) = IsFitLine k line s × AreFitLines (entered k s) lines ss
AreFitLines k lines ss = ⊥

-- the text has no fault, and this is what is known after its lines
pub record IsAllRead (purpose : Purpose) (text : List ℕ) (k : Known) : Type 0 where
  pub statements : List Statement
  pub reads : ReadsAs purpose text statements
  pub fit : AreFitLines (known_at purpose []) (take (length statements) (lines_of text)) statements
  pub known : k ≡ known_at purpose statements

-- the fault that is answered is the least of the text; of one that is too long memory wants nothing
abbrev pub IsReadingError : Purpose → List ℕ → ReadingError → Type 0
IsReadingError purpose text (reading.Text fault) = IsLeastFault purpose text fault.line fault.number
IsReadingError purpose text reading.Memory = length text ≤ longest text

-- the error of a line as one of its text
abbrev pub error_at : ℕ → LineError → ReadingError
error_at line (error.Fault f) = reading.Text (record { line = line; number = f })
error_at line error.Memory = reading.Memory
