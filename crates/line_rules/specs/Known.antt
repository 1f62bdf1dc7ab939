-- What is known before a line, of the lines before it.
use Rattle.std.specs.Prelude.{ℕ, List, [], ◌∷◌, ◌++◌, ◌≡◌, ◌<◌, ◌⊎◌, Bool, length, map, slice_index_or}
use Rattle.std.specs.List.{Contains, filter, flat_map}
use Rattle.std.specs.Str.{bytes_eq}
use Rattle.text_lines.specs.Texts.{Word}
use Rattle.line_shapes.specs.Keywords.{spelling_of}
use Rattle.line_shapes.specs.Lines.{Statement}
use Rattle.line_shapes.specs.declared.keyword.Keyword.{Keyword}
use Rattle.line_shapes.specs.declared.keyword.Keyword.TheVariants as keyword
use Rattle.line_shapes.specs.declared.place.Kind.{Kind}
use Rattle.line_shapes.specs.declared.place.Kind.TheVariants.{Centre, Rack, Worker, Split, Priced}
use Rattle.line_rules.specs.declared.edition.Version.{Version}
use Rattle.line_rules.specs.declared.edition.Version.TheVariants.{One}
use Rattle.line_rules.specs.declared.purpose.Purpose.{Purpose}
use Rattle.line_rules.specs.declared.section.Section.{Section}
use Rattle.line_rules.specs.declared.section.Section.TheVariants.{First}
use Rattle.line_rules.specs.Entering.{Key, command_of, entered_of, key_of}
use Rattle.line_rules.specs.Sections.{edition_of, section_after, version_by}

pub record Known : Type 0 where
  -- what the text is read for
  pub purpose : Purpose
  pub version : Version
  -- where the line stands
  pub section : Section
  -- the lines before that are entered, in their order
  pub rows : List Statement
  -- the commands before, in their order
  pub commands : List Statement

abbrev pub version_after : Version → Statement → Version
version_after version s = version_by (edition_of s.keyword) version s.words

-- the version after these lines
abbrev pub version_at : Version → List Statement → Version
version_at version [] = version
version_at version (s ∷ ss) = version_at (version_after version s) ss

-- where a line stands after these
abbrev pub section_at : Section → List Statement → Section
section_at section [] = section
section_at section (s ∷ ss) = section_at (section_after s.keyword) ss

-- what is known after these lines
abbrev pub known_at : Purpose → List Statement → Known
known_at purpose before = record {
  purpose = purpose;
  version = version_at One before;
  section = section_at First before;
  rows = flat_map entered_of before;
  commands = flat_map command_of before;
}

-- what is known after one line more
abbrev pub entered : Known → Statement → Known
entered k s = record k {
  version = version_after k.version s;
  section = section_after s.keyword;
  rows = k.rows ++ entered_of s;
  commands = k.commands ++ command_of s;
}

-- ---- the rows

abbrev pub keys_of : List Statement → List Key
keys_of rows = map key_of rows

-- a row of this keyword and this first word
abbrev pub HasRow : List Statement → Keyword → Word → Type 0
HasRow rows k name = Contains (keys_of rows) (k, name, [])

-- the name is declared, and of this kind
abbrev pub IsDeclared : List Statement → Kind → Word → Type 0
IsDeclared rows Centre name = HasRow rows keyword.Centre name
IsDeclared rows Rack name = HasRow rows keyword.Rack name
IsDeclared rows Worker name = HasRow rows keyword.Worker name
IsDeclared rows Split name = HasRow rows keyword.Split name
IsDeclared rows Priced name = HasRow rows keyword.Split name ⊎ HasRow rows keyword.Worker name

-- the one name space
abbrev pub IsTaken : List Statement → Word → Type 0
IsTaken rows name = HasRow rows keyword.Centre name ⊎ (HasRow rows keyword.Rack name
    ⊎ (HasRow rows keyword.Worker name ⊎ (HasRow rows keyword.Split name ⊎ HasRow rows keyword.Doc name)))

abbrev pub is_of : Keyword → Statement → Bool
is_of k s = bytes_eq (spelling_of k) (spelling_of s.keyword)

-- the rows of one keyword
abbrev pub rows_of : Keyword → List Statement → List Statement
rows_of k rows = filter (is_of k) rows

-- one of them, by its number among them, counted from 0; past the last one without words
abbrev pub nth_row : Keyword → ℕ → List Statement → Statement
nth_row k n rows = slice_index_or (rows_of k rows) n (record { keyword = k; words = [] })

-- among the rows of the key's keyword, the row of this number has the key
pub record HasNumber (rows : List Statement) (key : Key) (n : ℕ) : Type 0 where
  pub inside : n < length (rows_of key.0 rows)
  pub is : key_of (nth_row key.0 n rows) ≡ key
