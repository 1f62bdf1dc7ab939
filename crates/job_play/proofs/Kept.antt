-- What no command changes, and which runs stay in the table.
use Rattle.std.proofs.Common.{◌≡◌, ◌≢◌, inl, inr, ℕ, List, [], ◌∷◌, ◌++◌, refl, sym, ap, ◌∙◌, subst, All}
use Rattle.std.specs.Prelude.{fold}
use Rattle.std.proofs.lemmas.List.Elements.{All-push}
use Rattle.worker_table.specs.Workers.{silent_in, swept}
use Rattle.master_state.specs.declared.answers.Answer.TheVariants as answer
use Rattle.master_state.specs.declared.states.Start.{Start}
use Rattle.master_state.specs.declared.states.Work.TheVariants as works
use Rattle.master_state.specs.States.{Setup, State}
use Rattle.master_state.specs.Refusals.{Call, Sweep, ReduceStart, Backup}
use Rattle.master_state.specs.Changes.{after, died, split_started}
use Rattle.master_state.specs.Jobs.{Job, Answers, Plain}
use Rattle.script_text.specs.declared.script.Names.{Names}
use Rattle.script_text.specs.declared.script.Command.{Command}
use Rattle.script_text.specs.declared.script.Command.TheVariants as command
use Rattle.job_play.specs.Given.{Runs, HasRuns, HoldsRuns}
use Rattle.job_play.specs.Reports.{Performs}
use Rattle.job_play.specs.Playing.{Performed}
use Rattle.job_play.proofs.Calls.{IsStarted, is_done}

-- ---- the starts of which each has its runs in the table

abbrev Have : Setup → List Runs → List Start → Type 0
Have setup table starts = All (λ (start : Start). HasRuns setup table start.work) starts

have_died : (setup : Setup) (table : List Runs) (s : State) (workers : List ℕ) → Have setup table s.starts →
    Have setup table (fold died s workers).starts
have_died setup table s [] have = have
have_died setup table s (w ∷ workers) have = have_died setup table (died s w) workers have

have_started : (setup : Setup) (table : List Runs) (s : State) (pairs : List (ℕ × ℕ)) →
    Have setup table s.starts →
    Have setup table (fold (λ now pair. split_started now pair.0 pair.1) s pairs).starts
have_started setup table s [] have = have
have_started setup table s (pair ∷ pairs) have =
    have_started setup table (split_started s pair.0 pair.1) pairs
    (All-push (λ (start : Start). HasRuns setup table start.work) s.starts
    (record { work = works.Split pair.0; worker = pair.1 }) have tt)

have_after : (setup : Setup) (table : List Runs) (s : State) (call : Call) → call ≢ ReduceStart →
    Have setup table s.starts → Have setup table (after s call).starts
have_after setup table s (Sweep counts) other have =
    have_died setup table
    (record s { workers = swept s.workers counts; sweeps = s.sweeps ++ counts ∷ [] })
    (silent_in (swept s.workers counts)) have
have_after setup table s ReduceStart other have = absurd (other refl)
have_after setup table s (Backup split w) other have =
    All-push (λ (start : Start). HasRuns setup table start.work) s.starts
    (record { work = works.Split split; worker = w }) have tt
have_after setup table s call other have = have

-- ---- a command that starts no part leaves what the job was given, and the runs that were

pub record Keeps (old new : Job) : Type 0 where
  pub setup : new.setup ≡ old.setup
  pub have : (table : List Runs) → Have old.setup table old.state.starts →
      Have old.setup table new.state.starts

keeps_same : (old new : Job) → new ≡ old → Keeps old new
keeps_same old new same = record {
  setup = ap (λ (j : Job). j.setup) same;
  have = λ table have. subst (λ (j : Job). Have old.setup table j.state.starts) (sym same) have;
}

keeps_answered : (old new : Job) (call : Call) (given : Plain) → call ≢ ReduceStart →
    Answers old call given new → Keeps old new
keeps_answered old new call (answer.Accepted place rest) other answers = record {
  setup = answers.next.setup;
  have = λ table have. subst (λ (s : State). Have old.setup table s.starts) (sym answers.change.leads)
      (have_after old.setup table old.state call other have);
}
keeps_answered old new call (answer.Ignored why rest) other answers = keeps_same old new answers.same

keeps_started : (old new : Job) (c : Command) → IsStarted old new c → Keeps old new
keeps_started old new c started = record {
  setup = started.next.setup;
  have = λ table have. subst (λ (s : State). Have old.setup table s.starts) (sym started.leads)
      (have_started old.setup table old.state started.pairs have);
}

keeps : (names : Names) (target : ℕ) (old new : Job) (c : Command) (out : List ℕ) → c ≢ command.Reduce →
    Performs names target old c out new → Keeps old new
keeps names target old new c out other done = elim (is_done names target old new c out done) [
  | inl same ↦ keeps_same old new same
  | inr (inl started) ↦ keeps_started old new c started
  | inr (inr called) ↦
      keeps_answered old new called.call called.given (called.no_reduce other) called.answers
]

-- ---- what follows for the player

holds_kept : {old new : Job} (table : List Runs) → Keeps old new → HoldsRuns table old → HoldsRuns table new
holds_kept {old} {new} table kept holds = record {
  parts = holds.parts ∙ ap (λ (setup : Setup). setup.cluster.parts) (sym kept.setup);
  each = subst (λ (setup : Setup). Have setup table new.state.starts) (sym kept.setup)
      (kept.have table holds.each);
}

pub holds_runs : {names : Names} {target : ℕ} {old new : Job} {c : Command} {before now : List ℕ}
    (table : List Runs) → Performed names target old c before now new → c ≢ command.Reduce →
    HoldsRuns table old → HoldsRuns table new
holds_runs {names} {target} {old} {new} {c} table done other holds =
    holds_kept table (keeps names target old new c done.out other done.performs) holds

told_setup : (old new : Job) (call : Call) (given : Plain) → Answers old call given new →
    new.setup ≡ old.setup
told_setup old new call (answer.Accepted place rest) answers = answers.next.setup
told_setup old new call (answer.Ignored why rest) answers = ap (λ (j : Job). j.setup) answers.same

pub performs_setup : (names : Names) (target : ℕ) (old new : Job) (c : Command) (out : List ℕ) →
    Performs names target old c out new → new.setup ≡ old.setup
performs_setup names target old new c out done = elim (is_done names target old new c out done) [
  | inl same ↦ ap (λ (j : Job). j.setup) same
  | inr (inl started) ↦ started.next.setup
  | inr (inr called) ↦ told_setup old new called.call called.given called.answers
]

pub performed_setup : {names : Names} {target : ℕ} {old new : Job} {c : Command} {before now : List ℕ} →
    Performed names target old c before now new → new.setup ≡ old.setup
performed_setup {names} {target} {old} {new} {c} done =
    performs_setup names target old new c done.out done.performs
