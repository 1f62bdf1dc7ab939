-- What is said of a job that was read and run is said of its text.
use Rattle.std.proofs.Common.{ℕ, Bool, List, Option, Some, None, Result, Ok, Err, ◌≡◌, ◌∙◌, IfOk, ap, length}
use Rattle.std.proofs.Common.{subst, sym}
use Rattle.std.proofs.lemmas.List.{length-map}
use Rattle.std.proofs.lemmas.List.FromFn.{length-range_with_len}
use Rattle.line_rules.specs.declared.purpose.Purpose.TheVariants.{Running}
use Rattle.word_map.specs.Entries.{EntryView}
use Rattle.shuffle_reduce.specs.Gather.{values_of}
use Rattle.script_text.specs.Heads.{IsFitHead}
use Rattle.script_text.specs.declared.heads.Head.{Head}
use Rattle.master_state.specs.States.{Cluster, IsWhole, Setup}
use Rattle.script_text.specs.Scripts.{IsOfHead, IsScriptOf}
use Rattle.script_text.specs.declared.script.Names.{Names}
use Rattle.script_text.specs.declared.script.Script.{Script}
use Rattle.script_text.specs.declared.script.ScriptText.{ScriptText}
use Rattle.master_state.specs.Jobs.{Job}
use Rattle.job_threads.specs.Outcomes.{EndsWith, IsRecordOf}
use Rattle.job_threads.specs.declared.outcome.Record.{Record}
use Rattle.job_threads.specs.declared.outcome.RunError.{RunError}
use Rattle.job_play.specs.PlayAnswer.{cluster_in}
use Rattle.job_run.specs.RunAnswer.{HasTextsNamed, RunsRead, TellsEnd, TellsJob, setup_on}
use Rattle.job_run.specs.declared.running.RunEnd.{RunEnd}
use Rattle.job_run.specs.declared.running.RunEnd.TheVariants as finish
use Rattle.job_run.specs.declared.running.JobEnd.{JobEnd}
use Rattle.job_play.proofs.Answered.{same_cluster}

-- a text for each split that has a name
pub texts_named : (head : Head) (script : Script) → IsFitHead head → IsOfHead head script
    → length script.names.splits ≡ length (values_of head.texts.items)
texts_named head script fit is =
    is.splits ∙ sym (length-range_with_len 0 (length head.splits.items)) ∙ sym (ap length fit.texts)
    ∙ length-map (values_of head.texts.items) (λ text. text.split)

pub splits_named : (names : Names) (cluster : Cluster) → IsWhole cluster
    → length names.splits ≡ length cluster.texts → length names.splits ≡ length cluster.splits
splits_named names cluster whole named =
    named ∙ sym (length-map cluster.texts (λ text. text.split)) ∙ ap length whole.texts
    ∙ length-range_with_len 0 (length cluster.splits)

-- a master of which a run tells was given the job
setup_kept : (given : Setup) (last : Job) (index : Option (List EntryView))
    → EndsWith given last index → last.setup ≡ given
setup_kept given last (Some index) is = is.0.setup
setup_kept given last None is = is.setup

pub told_setup : (given : Setup) (names : Names) (last : Job) (end : RunEnd) (out : List ℕ)
    → TellsEnd given names last end out → last.setup ≡ given
told_setup given names last finish.Done out ends = ends.0.setup
told_setup given names last finish.Stuck out ends = ends.0.setup

pub texts_told : (names : Names) (given : Setup) (ended : Result Record RunError)
    → length names.splits ≡ length given.cluster.texts → IfOk ended (IsRecordOf given)
    → IfOk ended (HasTextsNamed names)
texts_told names given (Ok ran) named is =
    named
    ∙ sym (ap (λ (setup : Setup). length setup.cluster.texts) (setup_kept given ran.master ran.index is))
texts_told names given (Err why) named is = tt

pub runs_read : (asked : Bool) (text : List ℕ) (v : ScriptText) (end : JobEnd) (lines : List ℕ)
    → IsScriptOf Running text v → TellsJob (setup_on (cluster_in v.head)) v.script.names asked end lines
    → RunsRead asked text end lines
runs_read asked text v end lines is tells = record {
  known = is.known;
  script = v.script;
  read = is.read;
  declares = is.declares;
  tells = subst (λ (cluster : Cluster). TellsJob (setup_on cluster) v.script.names asked end lines)
      (same_cluster is.known v.head is.head) tells;
}
