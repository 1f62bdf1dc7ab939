-- What the keys of rows keep to, and when the words of a line are fit.
use Rattle.std.specs.Prelude.{ℕ, List, [], ◌≡◌, ◌≢◌, ◌<◌, Option, Some, None, length, slice_index_or}
use Rattle.std.specs.List.{All}
use Rattle.text_lines.specs.Texts.{Word}
use Rattle.line_shapes.specs.Demands.{IsNumberWithin}
use Rattle.line_shapes.specs.Lines.{Statement}
use Rattle.line_shapes.specs.Places.{place_at}
use Rattle.line_shapes.specs.declared.place.Place.{Place}
use Rattle.line_shapes.specs.declared.place.Place.TheVariants.{New, Used, Number, Text}
use Rattle.line_rules.specs.declared.edition.Version.{Version}
use Rattle.line_rules.specs.declared.entering.Entering.TheVariants.{InTurn, Word as ByWord}
use Rattle.line_rules.specs.Entering.{Key, entering_of}
use Rattle.line_rules.specs.Known.{IsDeclared, IsTaken, keys_of}
use Rattle.line_rules.specs.Names.{IsNameOf}
use Rattle.line_rules.specs.declared.section.Section.{Section}
use Rattle.line_rules.specs.declared.section.Section.TheVariants.{First}

-- it is not a command's, and a new name by which a line was entered is a name, if it is not empty
pub record IsSound (version : Version) (key : Key) : Type 0 where
  pub entered : entering_of key.0 ≢ InTurn
  pub named : entering_of key.0 ≡ ByWord → place_at key.0 0 ≡ Some New → 0 < length key.1
      → IsNameOf version key.1

abbrev pub AreSound : Version → List Statement → Type 0
AreSound version rows = All (IsSound version) (keys_of rows)

-- what stands before a line is sound, and nothing stands before the first line, which tells the version
pub record IsSoundBefore (version : Version) (section : Section) (rows : List Statement) : Type 0 where
  pub sound : AreSound version rows
  pub none : section ≡ First → rows ≡ []

-- the word is all that its place asks of it, in view of the lines before
abbrev pub IsFitIn : Version → List Statement → Option Place → Word → Type 0
IsFitIn version rows None w = ⊥
IsFitIn version rows (Some New) w = IsNameOf version w × (IsTaken rows w → ⊥)
IsFitIn version rows (Some (Used kind)) w = (0 < length w) × IsDeclared rows kind w
IsFitIn version rows (Some (Number least most)) w = IsNumberWithin least most w
IsFitIn version rows (Some Text) w = Unit {0}

-- each word after the keyword is
abbrev pub AreFit : Version → List Statement → Statement → Type 0
AreFit version rows s = (i : ℕ) → i < length s.words
    → IsFitIn version rows (place_at s.keyword i) (slice_index_or s.words i [])
