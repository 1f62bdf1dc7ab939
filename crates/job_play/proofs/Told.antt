-- What a command leaves of the past of a job.
use Rattle.std.proofs.Common.{◌≡◌, ◌∙◌, ℕ, ◌≤◌, ◌+◌, ◌++◌, List, [], ◌∷◌, refl, sym, ap, arith, subst, length}
use Rattle.std.proofs.Common.{append-nil, length-append, inl, inr}
use Rattle.std.specs.List.{flat_map}
use Rattle.text_lines.specs.Texts.{Word}
use Rattle.master_state.specs.declared.answers.Answer.TheVariants as answer
use Rattle.master_state.specs.declared.events.Event.{Event}
use Rattle.master_state.specs.Refusals.{Call}
use Rattle.master_state.specs.Jobs.{Answers, IsKept, Job, Plain, event_of}
use Rattle.master_state.proofs.Steps.{step_of_change}
use Rattle.report_lines.specs.Lines.{copy_line}
use Rattle.report_lines.specs.Past.{PastView, copies_at, past_of}
use Rattle.report_lines.specs.Reports.{turns_lines}
use Rattle.report_lines.specs.Rising.{IsRising}
use Rattle.report_lines.specs.ToldTurn.{ToldTurn}
use Rattle.report_lines.proofs.Following.{GoesOn, no_sweep, step_goes_on}
use Rattle.report_lines.proofs.Rise.{rising_ends}
use Rattle.report_lines.proofs.Told.{later_pasts_tell_the_same}
use Rattle.script_text.specs.declared.script.Names.{Names}
use Rattle.script_text.specs.declared.script.Command.{Command}
use Rattle.job_play.specs.Pasts.{past_at}
use Rattle.job_play.specs.Playing.{Performed}
use Rattle.job_play.specs.Reports.{Performs}
use Rattle.job_play.proofs.Calls.{IsStarted, is_done}
use Rattle.job_play.proofs.Made.{performed_behind}

-- the history and the counts of sweeps go on
pub record Grows (old new : Job) : Type 0 where
  pub setup : new.setup ≡ old.setup
  pub later : List Event
  pub history : new.history ≡ old.history ++ later
  pub sweeps : GoesOn old.state.sweeps new.state.sweeps

grows_same : (old new : Job) → new ≡ old → Grows old new
grows_same old new same = record {
  setup = ap (λ (j : Job). j.setup) same;
  later = [];
  history = ap (λ (j : Job). j.history) same ∙ sym (append-nil old.history);
  sweeps = no_sweep old.state.sweeps new.state.sweeps (ap (λ (j : Job). j.state.sweeps) same);
}

grows_answered : (old new : Job) (call : Call) (given : Plain) → Answers old call given new → Grows old new
grows_answered old new call (answer.Accepted place rest) answers = record {
  setup = answers.next.setup;
  later = event_of old.state call ∷ [];
  history = answers.next.history;
  sweeps = step_goes_on old.setup old.state (event_of old.state call) new.state
      (step_of_change old.setup old.state call new.state answers.change);
}
grows_answered old new call (answer.Ignored why rest) answers = grows_same old new answers.same

grows_started : (old new : Job) (c : Command) → IsStarted old new c → Grows old new
grows_started old new c started = record {
  setup = started.next.setup;
  later = started.event ∷ [];
  history = started.next.history;
  sweeps = step_goes_on old.setup old.state started.event new.state started.step;
}

grows : (names : Names) (target : ℕ) (old new : Job) (c : Command) (out : List ℕ) →
    Performs names target old c out new → Grows old new
grows names target old new c out done = elim (is_done names target old new c out done) [
  | inl same ↦ grows_same old new same
  | inr (inl started) ↦ grows_started old new c started
  | inr (inr called) ↦ grows_answered old new called.call called.given called.answers
]

-- ---- what was told of the past is told of it later

same_turns : (splits workers : List Word) (old new : PastView) (first last : ℕ) (turns : List ToldTurn) →
    IsRising first turns last → ((n : ℕ) → n ≤ last → copies_at new n ≡ copies_at old n) →
    turns_lines splits workers new turns ≡ turns_lines splits workers old turns
same_turns splits workers old new first last [] rising same = refl
same_turns splits workers old new first last (turn ∷ turns) rising same =
    let here = same turn.events (rising_ends turn.events last turns rising.1) in
    let rest = same_turns splits workers old new turn.events last turns rising.1 same in
    λ k. (turn.before ++ flat_map (copy_line splits workers) (here k)) ++ rest k

module _ {names : Names} {target : ℕ} {old new : Job} {c : Command} {before now : List ℕ}
    (done : Performed names target old c before now new) where
  its_growth : Grows old new
  its_growth = grows names target old new c done.out done.performs

  pub no_fewer : length old.history ≤ length new.history
  no_fewer =
      omega (arith, ap length its_growth.history, length-append old.history its_growth.later)

  later_copies : IsKept old → (n : ℕ) → n ≤ length old.history →
      copies_at (past_at new target) n ≡ copies_at (past_at old target) n
  later_copies kept n within =
      (λ k. copies_at (past_of (its_growth.setup k) target (its_growth.history k) (its_growth.sweeps.1 k)) n)
      ∙ later_pasts_tell_the_same old.setup target old.history its_growth.later old.state
      its_growth.sweeps.0 n kept.legal within

  -- the lines of turns stand before what was written
  pub performed_later : (splits workers : List Word) (last : ℕ) (turns : List ToldTurn) → IsKept old →
      IsRising 0 turns last → last ≤ length old.history →
      Performed names target old c (turns_lines splits workers (past_at old target) turns ++ before)
      (turns_lines splits workers (past_at new target) turns ++ now) new
  performed_later splits workers last turns kept rising within =
      let front = turns_lines splits workers (past_at old target) turns in
      let same = same_turns splits workers (past_at old target) (past_at new target) 0 last turns rising
      (λ n few. later_copies kept n (omega (arith, few, within))) in
      subst (λ (t : List ℕ). Performed names target old c (front ++ before) (t ++ now) new) (sym same)
      (performed_behind front done)
