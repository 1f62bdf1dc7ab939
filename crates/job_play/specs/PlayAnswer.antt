-- What playing answers to a text, and to which it has no answer for want of attempts.
use Rattle.std.specs.Prelude.{ℕ, List, ⊤, ◌≡◌, Ok, Err, map}
use Rattle.std.specs.declared.result.Result.{Result}
use Rattle.text_lines.specs.declared.fault.TextFault.{TextFault}
use Rattle.line_shapes.specs.declared.keyword.Keyword.TheVariants.{Busy, Centre, Parts, Rack, Silence, Split}
use Rattle.line_shapes.specs.declared.keyword.Keyword.TheVariants.{Worker}
use Rattle.line_rules.specs.Known.{Known, rows_of}
use Rattle.line_rules.specs.Reading.{IsAllRead}
use Rattle.line_rules.specs.declared.edition.Version.{Version}
use Rattle.line_rules.specs.declared.edition.Version.TheVariants.{One, Two, Three}
use Rattle.line_rules.specs.declared.purpose.Purpose.TheVariants.{Playing}
use Rattle.command_runner.specs.declared.tool_error.NoAnswer.{NoAnswer}
use Rattle.command_runner.specs.declared.tool_error.NoAnswer.TheVariants as none
use Rattle.line_rules.specs.Faulty.{IsFaulty}
use Rattle.plan_text.specs.Names.{names_of}
use Rattle.plan_text.specs.Value.{declared_split, declared_tree}
use Rattle.script_text.specs.Documents.{texts_of}
use Rattle.script_text.specs.Heads.{slots_told}
use Rattle.script_text.specs.Settings.{setting}
use Rattle.script_text.specs.declared.heads.Head.{Head}
use Rattle.block_map.specs.declared.HolderLimit.{HolderLimit}
use Rattle.block_map.specs.declared.HolderLimit.TheVariants.{Eight, Sixteen}
use Rattle.master_state.specs.States.{Cluster}
use Rattle.master_core.specs.Clusters.{cluster_from}
use Rattle.script_text.specs.Scripts.{Declares}
use Rattle.script_text.specs.declared.script.Script.{Script}
use Rattle.job_play.specs.Reports.{IsReport}
use Rattle.job_play.specs.Rooms.{RunsOut, setup_for}
use Rattle.job_play.specs.declared.player.PlayEnd.{PlayEnd}
use Rattle.job_play.specs.declared.player.PlayError.{PlayError}
use Rattle.job_play.specs.declared.player.PlayError.TheVariants.{HistoryFull, Memory}

-- to how many holders a split may grow in a script or a job of the version
abbrev pub holder_limit_in : Version → HolderLimit
holder_limit_in One = Eight
holder_limit_in Two = Eight
holder_limit_in Three = Sixteen

-- the cluster that a head declares
abbrev pub declared_cluster : Known → Cluster
declared_cluster k = record {
  tree = declared_tree (names_of Centre k.rows) (rows_of Rack k.rows) (rows_of Worker k.rows);
  slots = map slots_told (rows_of Worker k.rows);
  splits = map (declared_split (names_of Worker k.rows) (names_of Busy k.rows)) (rows_of Split k.rows);
  texts = texts_of k.rows;
  parts = setting Parts 1 k.rows;
  silence = setting Silence 3 k.rows;
  holder_limit = holder_limit_in k.version;
}

-- the lines are a report of the script that the text declares, on the cluster that it declares
pub record PlaysRead (text : List ℕ) (end : PlayEnd) (lines : List ℕ) : Type 0 where
  pub known : Known
  pub script : Script
  pub read : IsAllRead Playing text known
  pub declares : Declares known script
  pub report : IsReport (setup_for (declared_cluster known) script) script end lines

-- the lines with which playing ends so
abbrev pub PlayAnswer : List ℕ → Result PlayEnd TextFault → List ℕ → Type 0
PlayAnswer text (Ok end) lines = PlaysRead text end lines
PlayAnswer text (Err fault) line = IsFaulty Playing text fault line

-- of the script that the text declares, a wave or a plan ahead may start more than there are attempts left
pub record RunsOutIn (text : List ℕ) : Type 0 where
  pub known : Known
  pub script : Script
  pub read : IsAllRead Playing text known
  pub declares : Declares known script
  pub runs_out : RunsOut (declared_cluster known) script

-- how a script or a job ends stays free; a fault is the same
abbrev pub AreEnds : {End : Type 0} → Result End TextFault → Result End TextFault → Type 0
AreEnds (Ok end) (Ok other) = ⊤
AreEnds (Ok end) (Err fault) = ⊥
AreEnds (Err fault) (Ok end) = ⊥
AreEnds (Err fault) (Err other) = fault ≡ other

-- the cluster that is made of a head
abbrev pub cluster_in : Head → Cluster
cluster_in head =
    cluster_from head.tree head.slots.items head.splits.items head.texts.items head.parts head.silence
    (holder_limit_in head.version)

-- why a script that was not played to its end is not answered
abbrev pub want_of : PlayError → NoAnswer
want_of Memory = none.Memory
want_of HistoryFull = none.HistoryFull
