-- Lines with more words than lines of their keyword may have.
use Rattle.std.specs.Prelude.{ℕ, zero, suc, List, ◌+◌, ◌≡◌, ◌≤◌, ◌<◌, Option, Some, None, length}
use Rattle.std.specs.Prelude.{slice_index_or}
use Rattle.std.specs.Borrow.{Bor}
use Rattle.std.specs.List.{All}
use Rattle.text_lines.specs.Texts.{Word}
use Rattle.text_lines.specs.declared.fault.Fault.{Fault}
use Rattle.text_lines.specs.declared.fault.Fault.TheVariants.{Shape}
use Rattle.line_shapes.specs.Demands.{HasShape, MeetsDemand}
use Rattle.line_shapes.specs.Lines.{IsShaped, Statement}
use Rattle.line_shapes.specs.Places.{places_of}
use Rattle.line_shapes.specs.declared.keyword.Keyword.{Keyword}
use Rattle.line_shapes.specs.declared.keyword.Keyword.TheVariants as keyword
use Rattle.line_shapes.specs.declared.place.Place.{Place}
use Rattle.line_shapes.specs.declared.place.Place.TheVariants.{Used}
use Rattle.line_rules.specs.declared.edition.Version.{Version}
use Rattle.line_rules.specs.declared.entering.Follow.{Follow}
use Rattle.line_rules.specs.declared.entering.Follow.TheVariants.{Any, Centre, Counts, Slots}
use Rattle.line_rules.specs.Entering.{follow_of, most_more_of}
use Rattle.line_rules.specs.Faults.{Fails, IsComplete, IsDeclaredIn, IsLeastOf, IsFit, centres_in}
use Rattle.line_rules.specs.Known.{Known, rows_of}
use Rattle.line_rules.specs.Names.{name_demand}

-- how many words may follow those in the places of a line, for all that is known: names that have to differ
-- are no more than there are splits
abbrev pub most_more : Follow → Option ℕ → Known → ℕ
most_more Centre few k = centres_in k.version
most_more Counts few k = length (rows_of keyword.Worker k.rows)
most_more Slots few k = 254
most_more Any (Some most) k = most
most_more Any None k = length (rows_of keyword.Split k.rows)

-- how many words a line of this keyword may have
abbrev pub most_words : Known → Keyword → ℕ
most_words k word = length (places_of word) + most_more (follow_of word) (most_more_of k.version word) k

-- the word has the first so many of what is asked of it, in turn: the shape of its place, a name where one
-- stands, and one that is declared
abbrev pub HasFirst : ℕ → Version → List Statement → Option Place → Word → Type 0
HasFirst zero version rows place w = Unit {0}
HasFirst (suc zero) version rows place w = HasShape place w
HasFirst (suc (suc zero)) version rows place w = HasShape place w × MeetsDemand (name_demand version) place w
HasFirst (suc (suc (suc n))) version rows place w =
    HasShape place w × MeetsDemand (name_demand version) place w × IsDeclaredIn rows place w

-- each of these words has the first so many, as far as this number
abbrev pub HaveFirst : Version → List Statement → Option Place → ℕ → List (Bor (List ℕ)) → Type 0
HaveFirst version rows place least ws = (k : ℕ) (d : Bor (List ℕ)) → k < length ws
    → (n : ℕ) → n ≤ 3 → n ≤ least → HasFirst n version rows place (slice_index_or ws k d).now

-- names may follow the places
abbrev pub IsUsed : Option Place → Type 0
IsUsed (Some (Used kind)) = Unit {0}
IsUsed place = ⊥

-- what the word has in turn, each of these words has
abbrev pub IsWorst : Version → List Statement → Option Place → List Word → Word → Type 0
IsWorst version rows place ws w =
    (n : ℕ) → n ≤ 3 → HasFirst n version rows place w → All (HasFirst n version rows place) ws

-- ---- the faults of a keyword with these words after it

abbrev pub said : Keyword → List Word → Statement
said k ws = record { keyword = k; words = ws }

abbrev pub WordsHave : Known → Keyword → List Word → Fault → Type 0
WordsHave k word ws Shape = IsShaped (said word ws) → IsComplete k (said word ws) → ⊥
WordsHave k word ws f = IsShaped (said word ws) × Fails k (said word ws) f

-- the least fault of the short list is that of the long one; without a fault both are the same
pub record StandsFor (k : Known) (word : Keyword) (short long : List Word) : Type 0 where
  pub least : (f : Fault) → IsLeastOf (WordsHave k word short) f → IsLeastOf (WordsHave k word long) f
  pub fit : IsShaped (said word short) → IsFit k (said word short) → short ≡ long
