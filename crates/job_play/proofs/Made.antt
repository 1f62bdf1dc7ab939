-- What was performed and how it ended, as a report of which some lines are kept as orders.
use Rattle.std.proofs.Common.{◌≡◌, ℕ, List, [], ◌++◌, ◌∙◌, ap, append_assoc, sym}
use Rattle.master_state.specs.States.{Setup}
use Rattle.master_state.specs.Jobs.{IsKept, Job}
use Rattle.script_text.specs.declared.script.Command.{Command}
use Rattle.script_text.specs.declared.script.Names.{Names}
use Rattle.script_text.specs.declared.script.Script.{Script}
use Rattle.job_play.specs.Playing.{Ended, Performed, PerformedAll}
use Rattle.job_play.specs.Reports.{IsReport, opening_job}
use Rattle.job_play.specs.declared.player.PlayEnd.{PlayEnd}

-- what was written behind some lines stands behind more
pub performed_behind : {names : Names} {target : ℕ} {old new : Job} {c : Command} {before now : List ℕ}
    (front : List ℕ) → Performed names target old c before now new →
    Performed names target old c (front ++ before) (front ++ now) new
performed_behind {names} {target} {old} {new} {c} {before} {now} front done = record {
  out = done.out;
  performs = done.performs;
  written = ap (λ (t : List ℕ). front ++ t) done.written ∙ sym (append_assoc front before done.out);
}

-- the lines of all commands, of which the last ones stand behind a front, and then the lines of the end
pub report_is : (setup : Setup) (script : Script) (finish : PlayEnd) (last : Job)
    (before mid front old_last new_last all : List ℕ)
    → PerformedAll script.names script.target (opening_job setup) script.commands.items before mid last
    → before ≡ [] → mid ≡ front ++ old_last → Ended script.names last finish old_last new_last
    → all ≡ front ++ new_last → last.setup ≡ setup → IsKept last → IsReport setup script finish all
report_is setup script finish last before mid front old_last new_last all performed none split ended whole
    given kept = record {
      last = last;
      answers = performed.out;
      ending = ended.out;
      given = given;
      kept = kept;
      performs = performed.performs;
      ends = ended.ends;
      out_is = whole ∙ ap (λ (t : List ℕ). front ++ t) ended.written
          ∙ sym (append_assoc front old_last ended.out)
          ∙ ap (λ (t : List ℕ). t ++ ended.out)
          (sym split ∙ performed.written ∙ ap (λ (t : List ℕ). t ++ performed.out) none);
    }
