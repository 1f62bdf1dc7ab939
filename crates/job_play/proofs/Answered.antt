-- What is said of the script and the head that were read is said of the text.
use Rattle.std.proofs.Common.{ℕ, List, Result, Ok, Err, ◌≡◌, refl, subst}
use Rattle.std.specs.Result.{IsErrAnd}
use Rattle.line_rules.specs.Known.{Known}
use Rattle.line_rules.specs.declared.purpose.Purpose.TheVariants.{Playing}
use Rattle.command_runner.specs.declared.tool_error.NoAnswer.{NoAnswer}
use Rattle.command_runner.specs.declared.tool_error.NoAnswer.TheVariants as none
use Rattle.script_text.specs.Heads.{MakesHead}
use Rattle.script_text.specs.declared.heads.Head.{Head}
use Rattle.master_state.specs.States.{Cluster}
use Rattle.script_text.specs.Scripts.{IsScriptOf}
use Rattle.script_text.specs.declared.script.ScriptText.{ScriptText}
use Rattle.job_play.specs.Reports.{IsReport}
use Rattle.job_play.specs.Rooms.{RunsOut, setup_for}
use Rattle.job_play.specs.PlayAnswer.{PlaysRead, RunsOutIn, cluster_in, declared_cluster, holder_limit_in}
use Rattle.job_play.specs.PlayAnswer.{want_of}
use Rattle.job_play.specs.declared.player.PlayEnd.{PlayEnd}
use Rattle.job_play.specs.declared.player.PlayError.{PlayError}
use Rattle.job_play.specs.declared.player.PlayError.TheVariants.{HistoryFull, Memory}

-- a head makes the cluster that its rows declare
pub same_cluster : (k : Known) (head : Head) → MakesHead k.version k.rows head →
    cluster_in head ≡ declared_cluster k
same_cluster k head makes = λ i. record {
  tree = makes.tree i;
  slots = makes.slots i;
  splits = makes.splits i;
  texts = makes.texts i;
  parts = makes.parts i;
  silence = makes.silence i;
  holder_limit = holder_limit_in (makes.version i);
}

pub plays_read : (text : List ℕ) (v : ScriptText) (end : PlayEnd) (lines : List ℕ)
    → IsScriptOf Playing text v
    → IsReport (setup_for (cluster_in v.head) v.script) v.script end lines → PlaysRead text end lines
plays_read text v end lines is report = record {
  known = is.known;
  script = v.script;
  read = is.read;
  declares = is.declares;
  report = subst (λ (c : Cluster). IsReport (setup_for c v.script) v.script end lines)
      (same_cluster is.known v.head is.head) report;
}

pub runs_out_in : (text : List ℕ) (v : ScriptText) → IsScriptOf Playing text v
    → RunsOut (cluster_in v.head) v.script → RunsOutIn text
runs_out_in text v is out = record {
  known = is.known;
  script = v.script;
  read = is.read;
  declares = is.declares;
  runs_out = subst (λ (c : Cluster). RunsOut c v.script) (same_cluster is.known v.head is.head) out;
}

-- the room of a history is wanting where it was so in playing
pub full_in_playing : {T : Type 0} (why : PlayError) (result : Result T NoAnswer)
    → IsErrAnd result (λ e. e ≡ want_of why) → result ≡ Err none.HistoryFull → why ≡ HistoryFull
full_in_playing why (Ok x) is full = absurd is
full_in_playing Memory (Err e) is full = cc
full_in_playing HistoryFull (Err e) is full = refl
