-- Where a line may stand: in one section of the texts of a kind, or in none, and in which versions.
use Rattle.std.specs.Prelude.{List, Option, Some, None, codes, if◌then◌else◌, slice_index_or, []}
use Rattle.std.specs.Str.{bytes_eq}
use Rattle.text_lines.specs.Texts.{Word}
use Rattle.line_shapes.specs.declared.keyword.Keyword.{Keyword}
use Rattle.line_shapes.specs.declared.keyword.Keyword.TheVariants.{Problem, Script, Job, Centre, Rack, Worker}
use Rattle.line_shapes.specs.declared.keyword.Keyword.TheVariants.{Split, Barred, Dead, Busy, Parts, Target}
use Rattle.line_shapes.specs.declared.keyword.Keyword.TheVariants.{Silence, Doc, Plan, Start, Price, Begin}
use Rattle.line_shapes.specs.declared.keyword.Keyword.TheVariants.{Wave, Ahead, Done, Fail, Withdraw, Die, Join}
use Rattle.line_shapes.specs.declared.keyword.Keyword.TheVariants.{Add, Lose, Sweep, Reduce, Copies, Backup, End}
use Rattle.line_shapes.specs.declared.keyword.Keyword.TheVariants.{Places}
use Rattle.line_rules.specs.declared.edition.Edition.{Edition}
use Rattle.line_rules.specs.declared.edition.Edition.TheVariants.{Tells, Each, Second, Third}
use Rattle.line_rules.specs.declared.edition.Version.{Version}
use Rattle.line_rules.specs.declared.edition.Version.TheVariants.{One, Two, Three}
use Rattle.line_rules.specs.declared.purpose.Purpose.{Purpose}
use Rattle.line_rules.specs.declared.purpose.Purpose.TheVariants.{Checking, Planning, Playing, Running}
use Rattle.line_rules.specs.declared.section.Section.{Section}
use Rattle.line_rules.specs.declared.section.Section.TheVariants.{First, Head, Body, Ended}

-- a problem, and a plan after it
abbrev pub in_check : Keyword → Option Section
in_check Problem = Some First
in_check Centre = Some Head
in_check Rack = Some Head
in_check Worker = Some Head
in_check Split = Some Head
in_check Barred = Some Head
in_check Dead = Some Head
in_check Busy = Some Head
in_check Places = Some Head
in_check Plan = Some Head
in_check Start = Some Body
in_check Price = Some Body
in_check End = Some Body
in_check k = None

-- a problem alone
abbrev pub in_plan : Keyword → Option Section
in_plan Problem = Some First
in_plan Centre = Some Head
in_plan Rack = Some Head
in_plan Worker = Some Head
in_plan Split = Some Head
in_plan Barred = Some Head
in_plan Dead = Some Head
in_plan Busy = Some Head
in_plan Places = Some Head
in_plan End = Some Head
in_plan k = None

-- a job, and commands after it
abbrev pub in_script : Keyword → Option Section
in_script Script = Some First
in_script Centre = Some Head
in_script Rack = Some Head
in_script Worker = Some Head
in_script Split = Some Head
in_script Parts = Some Head
in_script Target = Some Head
in_script Silence = Some Head
in_script Doc = Some Head
in_script Begin = Some Head
in_script Wave = Some Body
in_script Ahead = Some Body
in_script Done = Some Body
in_script Fail = Some Body
in_script Withdraw = Some Body
in_script Die = Some Body
in_script Join = Some Body
in_script Add = Some Body
in_script Lose = Some Body
in_script Sweep = Some Body
in_script Reduce = Some Body
in_script Copies = Some Body
in_script Backup = Some Body
in_script End = Some Body
in_script k = None

-- a job alone
abbrev pub in_job : Keyword → Option Section
in_job Job = Some First
in_job Centre = Some Head
in_job Rack = Some Head
in_job Worker = Some Head
in_job Split = Some Head
in_job Parts = Some Head
in_job Target = Some Head
in_job Silence = Some Head
in_job Doc = Some Head
in_job End = Some Head
in_job k = None

-- the section in which a line may stand
abbrev pub section_of : Purpose → Keyword → Option Section
section_of Checking k = in_check k
section_of Planning k = in_plan k
section_of Playing k = in_script k
section_of Running k = in_job k

-- the section after a line
abbrev pub section_after : Keyword → Section
section_after Problem = Head
section_after Script = Head
section_after Job = Head
section_after Centre = Head
section_after Rack = Head
section_after Worker = Head
section_after Split = Head
section_after Barred = Head
section_after Dead = Head
section_after Busy = Head
section_after Places = Head
section_after Parts = Head
section_after Target = Head
section_after Silence = Head
section_after Doc = Head
section_after End = Ended
section_after k = Body

-- ---- versions

-- what a line has to do with the version of its text
abbrev pub edition_of : Keyword → Edition
edition_of Problem = Tells
edition_of Script = Tells
edition_of Job = Tells
edition_of Centre = Second
edition_of Backup = Second
edition_of Ahead = Third
edition_of Places = Third
edition_of k = Each

abbrev pub version_told : List Word → Version
version_told ws =
    if bytes_eq (slice_index_or ws 0 []) (codes "2") then Two
    else if bytes_eq (slice_index_or ws 0 []) (codes "3") then Three
    else One

-- the version after a line of these words
abbrev pub version_by : Edition → Version → List Word → Version
version_by Tells version ws = version_told ws
version_by e version ws = version

-- a line of this edition may stand in a text of this version
abbrev pub IsOfVersion : Edition → Version → Type 0
IsOfVersion Second One = ⊥
IsOfVersion Third One = ⊥
IsOfVersion Third Two = ⊥
IsOfVersion e version = Unit {0}
