-- The script that a text declares; a job is one without commands.
use Rattle.std.specs.Prelude.{ℕ, List, All, ◌≡◌, ◌≤◌, length}
use Rattle.line_shapes.specs.declared.keyword.Keyword.TheVariants as keyword
use Rattle.line_rules.specs.Known.{Known}
use Rattle.line_rules.specs.Reading.{IsAllRead}
use Rattle.line_rules.specs.declared.purpose.Purpose.{Purpose}
use Rattle.line_rules.specs.declared.purpose.Purpose.TheVariants.{Playing}
use Rattle.line_rules.specs.declared.section.Section.TheVariants.{Body}
use Rattle.script_text.specs.Heads.{MakesHead}
use Rattle.script_text.specs.Settings.{setting}
use Rattle.script_text.specs.declared.heads.Head.{Head}
use Rattle.script_text.specs.Commands.{IsKnownIn, SayCommands}
use Rattle.script_text.specs.Naming.{AreNames}
use Rattle.script_text.specs.declared.script.Script.{Script}
use Rattle.script_text.specs.declared.script.ScriptText.{ScriptText}

-- the script is what these lines declare
pub record Declares (k : Known) (script : Script) : Type 0 where
  pub names : AreNames k.rows script.names
  pub target : script.target ≡ setting keyword.Target 3 k.rows
  pub commands : SayCommands script.names k.commands script.commands.items

-- The script names the workers and splits that the head makes, its commands know no others, and they are not
-- too many.
pub record IsOfHead (head : Head) (script : Script) : Type 0 where
  pub workers : length script.names.workers ≡ length head.slots.items
  pub splits : length script.names.splits ≡ length head.splits.items
  pub known : All (IsKnownIn (length head.slots.items) (length head.splits.items)) script.commands.items
  pub few : length script.commands.items ≤ 1048576

-- a number of replicas for which copies may be ordered
pub record IsTarget (target : ℕ) : Type 0 where
  pub some : 1 ≤ target
  pub few : target ≤ 8

-- the text has no fault when it is read for this, and this is what it declares
pub record IsScriptOf (purpose : Purpose) (text : List ℕ) (value : ScriptText) : Type 0 where
  pub known : Known
  pub read : IsAllRead purpose text known
  pub declares : Declares known value.script
  pub head : MakesHead known.version known.rows value.head

-- The text has no fault as a script. This is what it declares, and what is known where more commands may
-- follow.
pub record IsOpening (text : List ℕ) (value : ScriptText) (k : Known) : Type 0 where
  pub ended : Known
  pub read : IsAllRead Playing text ended
  pub declares : Declares ended value.script
  pub head : MakesHead ended.version ended.rows value.head
  pub reopened : k ≡ record ended { section = Body }
