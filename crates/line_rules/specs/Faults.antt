-- The faults of a line that says a statement, in view of the lines before it.
use Rattle.std.specs.Prelude.{ℕ, List, [], ◌≡◌, ◌≤◌, ◌<◌, Option, Some, None, drop, length, slice_index_or}
use Rattle.std.specs.Prelude.{true}
use Rattle.std.specs.List.{All, Contains}
use Rattle.std.specs.List.Sorted.{IsNonDecreasingBy}
use Rattle.text_lines.specs.Texts.{Word, number_of}
use Rattle.text_lines.specs.Faults.{number_of_fault}
use Rattle.text_lines.specs.declared.fault.Fault.{Fault}
use Rattle.text_lines.specs.declared.fault.Fault.TheVariants.{Shape, Misnamed, Unknown, Repeated, OutOfRange}
use Rattle.text_lines.specs.declared.fault.Fault.TheVariants.{PassesLimit, Misplaced, RepeatedHolder}
use Rattle.text_lines.specs.declared.fault.Fault.TheVariants.{SecondEntry, NoPrice}
use Rattle.line_shapes.specs.Lines.{HasTailApart, IsInRange, Statement, tail_words}
use Rattle.line_shapes.specs.Places.{place_at}
use Rattle.line_shapes.specs.declared.keyword.Keyword.{Keyword}
use Rattle.line_shapes.specs.declared.keyword.Keyword.TheVariants as keyword
use Rattle.line_shapes.specs.declared.place.Place.{Place}
use Rattle.line_shapes.specs.declared.place.Place.TheVariants.{New, Used}
use Rattle.line_rules.specs.declared.edition.Version.{Version}
use Rattle.line_rules.specs.declared.edition.Version.TheVariants.{One, Two, Three}
use Rattle.line_rules.specs.declared.entering.Entering.{Entering}
use Rattle.line_rules.specs.declared.entering.Entering.TheVariants as by
use Rattle.line_rules.specs.declared.entering.Follow.{Follow}
use Rattle.line_rules.specs.declared.entering.Follow.TheVariants.{Any, Centre, Counts, Slots}
use Rattle.line_rules.specs.declared.purpose.Purpose.{Purpose}
use Rattle.line_rules.specs.declared.purpose.Purpose.TheVariants.{Checking}
use Rattle.line_rules.specs.declared.rule.Rule.{Rule}
use Rattle.line_rules.specs.declared.rule.Rule.TheVariants as rule
use Rattle.line_rules.specs.declared.section.Section.{Section}
use Rattle.line_rules.specs.declared.section.Section.TheVariants.{Head, Body, Ended}
use Rattle.line_rules.specs.Entering.{Key, entering_of, follow_of, is_priced, key_of, most_more_of, most_of}
use Rattle.line_rules.specs.Known.{HasRow, IsDeclared, IsTaken, Known, keys_of, rows_of}
use Rattle.line_rules.specs.Names.{IsNamed}
use Rattle.line_rules.specs.Sections.{IsOfVersion, edition_of, section_after, section_of}

-- ---- what a line must meet, each its own fault where it does not

-- a rack's centre follows its name from version 2 on
abbrev pub centres_in : Version → ℕ
centres_in One = 0
centres_in Two = 1
centres_in Three = 1

-- so many words may follow those in the places of a line; of prices of places, as many as a worker may have
-- slots, of which the first stands in the places
abbrev pub MayFollow : Follow → Known → ℕ → Type 0
MayFollow Any k n = Unit {0}
MayFollow Centre k n = n ≡ centres_in k.version
MayFollow Counts k n = n ≡ length (rows_of keyword.Worker k.rows)
MayFollow Slots k n = n ≤ 254

-- as many words follow as have to
abbrev pub IsComplete : Known → Statement → Type 0
IsComplete k s = MayFollow (follow_of s.keyword) k (length (tail_words s))

-- the kind of text has such a line in this section, and in this version
abbrev pub MayStand : Known → Statement → Type 0
MayStand k s = (section_of k.purpose s.keyword ≡ Some k.section)
    × IsOfVersion (edition_of s.keyword) k.version

-- a name that is used is declared, of its kind
abbrev pub IsDeclaredIn : List Statement → Option Place → Word → Type 0
IsDeclaredIn rows (Some (Used kind)) w = IsDeclared rows kind w
IsDeclaredIn rows place w = Unit {0}

-- a name that is declared is not taken
abbrev pub IsFreeIn : List Statement → Option Place → Word → Type 0
IsFreeIn rows (Some New) w = IsTaken rows w → ⊥
IsFreeIn rows place w = Unit {0}

abbrev pub KeepsTo : Rule → List Statement → Option Place → Word → Type 0
KeepsTo rule.Declared rows place w = IsDeclaredIn rows place w
KeepsTo rule.Free rows place w = IsFreeIn rows place w

-- each word after the keyword keeps to the rule in its place
abbrev pub Keep : Rule → List Statement → Statement → Type 0
Keep r rows s = (i : ℕ) → i < length s.words
    → KeepsTo r rows (place_at s.keyword i) (slice_index_or s.words i [])

-- no line before was entered by the same words
abbrev pub IsFirst : List Statement → Statement → Type 0
IsFirst rows s = Contains (keys_of rows) (key_of s) → ⊥

-- what the head declares is declared once
abbrev pub IsFirstOfHead : Section → List Statement → Statement → Type 0
IsFirstOfHead Head rows s = IsFirst rows s
IsFirstOfHead section rows s = Unit {0}

-- what the body states is stated once
abbrev pub IsFirstOfBody : Section → List Statement → Statement → Type 0
IsFirstOfBody Body rows s = IsFirst rows s
IsFirstOfBody section rows s = Unit {0}

-- what the line declares is declared for the first time
pub record IsNew (rows : List Statement) (s : Statement) : Type 0 where
  pub names : Keep rule.Free rows s
  pub first : IsFirstOfHead (section_after s.keyword) rows s

abbrev pub IsFewer : Option ℕ → ℕ → Type 0
IsFewer None n = Unit {0}
IsFewer (Some most) n = n < most

abbrev pub IsFew : Option ℕ → ℕ → Type 0
IsFew None n = Unit {0}
IsFew (Some most) n = n ≤ most

-- the lines before that count towards the limit of a keyword: of a command's, all commands
abbrev pub counted_by : Entering → Known → Keyword → ℕ
counted_by by.InTurn k word = length k.commands
counted_by e k word = length (rows_of word k.rows)

abbrev pub counted_of : Known → Keyword → ℕ
counted_of k word = counted_by (entering_of word) k word

-- there may be one line more of its keyword, and no more words follow than may
pub record IsWithinLimit (k : Known) (s : Statement) : Type 0 where
  pub room : IsFewer (most_of k.version k.purpose s.keyword) (counted_of k s.keyword)
  pub few : IsFew (most_more_of k.version s.keyword) (length (tail_words s))

-- the most bytes of a split: 64 MiB, and from version 3 on 8 GiB
abbrev pub most_bytes : Version → ℕ
most_bytes One = 67108864
most_bytes Two = 67108864
most_bytes Three = 8589934592

-- the most slots of a worker: 16, and from version 3 on 255
abbrev pub most_slots : Version → ℕ
most_slots One = 16
most_slots Two = 16
most_slots Three = 255

-- these words after their keyword give a split no more bytes, and a worker no more slots, than that
abbrev pub IsOfSize : Version → Keyword → List Word → Type 0
IsOfSize version keyword.Split ws = number_of (slice_index_or ws 1 []) ≤ most_bytes version
IsOfSize version keyword.Worker ws = number_of (slice_index_or ws 2 []) ≤ most_slots version
IsOfSize version k ws = Unit {0}

-- of these words after their keyword, no price of a place is lower than the one before it
abbrev pub AreRising : Keyword → List Word → Type 0
AreRising keyword.Places ws = IsNonDecreasingBy number_of (drop 1 ws)
AreRising k ws = Unit {0}

-- each number is within the range of its place, in this version
pub record AreInRange (version : Version) (s : Statement) : Type 0 where
  pub places : IsInRange s
  pub size : IsOfSize version s.keyword s.words
  pub rising : AreRising s.keyword s.words

-- a split or a worker has a price
abbrev pub HasItsPrice : List Statement → Key → Type 0
HasItsPrice rows key = is_priced key.0 ≡ true → HasRow rows keyword.Price key.1

-- each of them, where there is a plan to check
abbrev pub AreAllPriced : Purpose → List Statement → Type 0
AreAllPriced Checking rows = All (HasItsPrice rows) (keys_of rows)
AreAllPriced purpose rows = Unit {0}

-- at the end nothing lacks its price
abbrev pub IsPricedBefore : Section → Known → Type 0
IsPricedBefore Ended k = AreAllPriced k.purpose k.rows
IsPricedBefore section k = Unit {0}

-- ---- the faults

-- what keeps a line that may stand where it does from this fault
abbrev pub Meets : Known → Statement → Fault → Type 0
Meets k s Misnamed = IsNamed k.version s
Meets k s Unknown = Keep rule.Declared k.rows s
Meets k s Repeated = IsNew k.rows s
Meets k s OutOfRange = AreInRange k.version s
Meets k s PassesLimit = IsWithinLimit k s
Meets k s RepeatedHolder = HasTailApart s
Meets k s SecondEntry = IsFirstOfBody (section_after s.keyword) k.rows s
Meets k s NoPrice = IsPricedBefore (section_after s.keyword) k
Meets k s f = Unit {0}

-- a line that is not whole has no other fault, and a misplaced line no other than that
abbrev pub Fails : Known → Statement → Fault → Type 0
Fails k s Shape = IsComplete k s → ⊥
Fails k s Misplaced = IsComplete k s × (MayStand k s → ⊥)
Fails k s f = IsComplete k s × MayStand k s × (Meets k s f → ⊥)

-- the line has no fault
pub record IsFit (k : Known) (s : Statement) : Type 0 where
  pub whole : IsComplete k s
  pub may_stand : MayStand k s
  pub named : IsNamed k.version s
  pub known : Keep rule.Declared k.rows s
  pub new : IsNew k.rows s
  pub in_range : AreInRange k.version s
  pub within_limit : IsWithinLimit k s
  pub tail_apart : HasTailApart s
  pub once : IsFirstOfBody (section_after s.keyword) k.rows s
  pub priced : IsPricedBefore (section_after s.keyword) k

-- the fault applies, and none of a lower number does
pub record IsLeastOf (P : Fault → Type 0) (f : Fault) : Type 0 where
  pub applies : P f
  pub least : (g : Fault) → P g → number_of_fault f ≤ number_of_fault g
