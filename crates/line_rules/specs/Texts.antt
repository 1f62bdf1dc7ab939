-- The faults of a text: which line has which fault, in view of the lines before it.
use Rattle.std.specs.Prelude.{ℕ, List, [], ◌∷◌, ◌≡◌, ◌≢◌, ◌+◌, ◌≤◌, ◌<◌, ◌⊎◌, length, take, drop}
use Rattle.std.specs.List.{All}
use Rattle.text_lines.specs.Streams.{longest}
use Rattle.text_lines.specs.Texts.{IsPrintable, Line, lines_of}
use Rattle.text_lines.specs.Faults.{number_of_fault}
use Rattle.text_lines.specs.declared.fault.Fault.{Fault}
use Rattle.text_lines.specs.declared.fault.Fault.TheVariants.{Shape, Misplaced, TooLong, NoFeed, Unprintable}
use Rattle.text_lines.specs.declared.fault.Fault.TheVariants.{AfterEnd}
use Rattle.line_shapes.specs.Lines.{Says, SaysNothing, Statement}
use Rattle.line_rules.specs.declared.purpose.Purpose.{Purpose}
use Rattle.line_rules.specs.declared.section.Section.TheVariants.{Ended}
use Rattle.line_rules.specs.Faults.{Fails, IsComplete}
use Rattle.line_rules.specs.Known.{Known, known_at}

-- what the lines say, those that say nothing left out
abbrev pub Declare : List Line → List Statement → Type 0
Declare [] [] = Unit {0}
Declare [] (s ∷ ss) = ⊥
Declare (l ∷ ls) [] = SaysNothing l × Declare ls []
Declare (l ∷ ls) (s ∷ ss) = (Says l s × Declare ls ss) ⊎ (SaysNothing l × Declare ls (s ∷ ss))

-- no fault of the bytes stands in the way of the words
abbrev pub IsLegible : Known → Line → Type 0
IsLegible k line = All IsPrintable line × (k.section ≢ Ended)

-- a line that has its line feed; it has no shape where it says nothing, or not as many words as have to
-- follow
abbrev pub LineHas : Known → Line → Fault → Type 0
LineHas k line Unprintable = All IsPrintable line → ⊥
LineHas k line AfterEnd = k.section ≡ Ended
LineHas k line NoFeed = ⊥
LineHas k line TooLong = ⊥
LineHas k line Shape = IsLegible k line × ((s : Statement) → Says line s → IsComplete k s → ⊥)
LineHas k line f = IsLegible k line × ((s : Statement) × Says line s × Fails k s f)

-- what stands after the last line feed
abbrev pub RestHas : Known → Line → Fault → Type 0
RestHas k [] Misplaced = k.section ≢ Ended
RestHas k [] _ = ⊥
RestHas k (b ∷ bs) NoFeed = Unit {0}
RestHas k (b ∷ bs) Unprintable = All IsPrintable (b ∷ bs) → ⊥
RestHas k (b ∷ bs) AfterEnd = k.section ≡ Ended
RestHas k (b ∷ bs) _ = ⊥

-- the first of these lines, of which the last has no line feed
abbrev pub FirstHas : Known → List Line → Fault → Type 0
FirstHas k [] f = ⊥
FirstHas k (rest ∷ []) f = RestHas k rest f
FirstHas k (line ∷ next ∷ more) f = LineHas k line f

-- line i of the text, counted from 0, has the fault, in view of the lines before it
abbrev pub Applies : Purpose → List ℕ → ℕ → Fault → Type 0
Applies purpose text i f = (before : List Statement) × Declare (take i (lines_of text)) before
    × FirstHas (known_at purpose before) (drop i (lines_of text)) f

-- ---- the whole text

-- no fault applies
pub record IsFaultless (purpose : Purpose) (text : List ℕ) : Type 0 where
  pub short : length text ≤ longest text
  pub none : (i : ℕ) (f : Fault) → Applies purpose text i f → ⊥

-- the statements of a text without a fault: each line but what follows the last line feed says one
pub record ReadsAs (purpose : Purpose) (text : List ℕ) (ss : List Statement) : Type 0 where
  pub faultless : IsFaultless purpose text
  pub says : Declare (take (length ss) (lines_of text)) ss
  pub whole : length (lines_of text) ≡ length ss + 1

-- line i has the fault, no line before it has one, and it has none of a lower number
pub record IsLeastAt (purpose : Purpose) (text : List ℕ) (i : ℕ) (f : Fault) : Type 0 where
  pub short : length text ≤ longest text
  pub applies : Applies purpose text i f
  pub least : (j : ℕ) (g : Fault) → Applies purpose text j g →
      (i < j) ⊎ ((i ≡ j) × (number_of_fault f ≤ number_of_fault g))

-- the first faulty line, counted from 1, and in it the lowest number; line 0 for a text that is too long
abbrev pub IsLeastFault : Purpose → List ℕ → ℕ → Fault → Type 0
IsLeastFault purpose text line TooLong = (line ≡ 0) × (longest text < length text)
IsLeastFault purpose text line f = (i : ℕ) × (line ≡ i + 1) × IsLeastAt purpose text i f
