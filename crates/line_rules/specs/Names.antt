-- Which words are names, by the version of a text.
use Rattle.text_lines.specs.Texts.{IsLongName, IsName, Word}
use Rattle.line_shapes.specs.Demands.{Meet}
use Rattle.line_shapes.specs.Lines.{Statement}
use Rattle.line_shapes.specs.declared.demand.Demand.{Demand}
use Rattle.line_shapes.specs.declared.demand.Demand.TheVariants.{Name, LongName}
use Rattle.line_rules.specs.declared.edition.Version.{Version}
use Rattle.line_rules.specs.declared.edition.Version.TheVariants.{One, Two, Three}

-- a name, and from version 3 on a long name
abbrev pub IsNameOf : Version → Word → Type 0
IsNameOf One w = IsName w
IsNameOf Two w = IsName w
IsNameOf Three w = IsLongName w

-- what is demanded in a name's place
abbrev pub name_demand : Version → Demand
name_demand One = Name
name_demand Two = Name
name_demand Three = LongName

-- in the places of names stand names
abbrev pub IsNamed : Version → Statement → Type 0
IsNamed version s = Meet (name_demand version) s.keyword s.words
