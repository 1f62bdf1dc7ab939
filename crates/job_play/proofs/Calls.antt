-- What a command does to a job: nothing, many starts, or one call of the master.
use Rattle.std.proofs.Common.{◌≡◌, ◌≢◌, ◌⊎◌, ◌≤◌, inl, inr, ℕ, List, [], Option, Some, None, refl, arith}
use Rattle.std.proofs.Common.{cond, length, true}
use Rattle.wave_problem.specs.Assignment.{pairs_of}
use Rattle.master_state.specs.declared.events.Event.{Event}
use Rattle.master_state.specs.declared.events.Event.TheVariants as events
use Rattle.master_state.specs.declared.states.Start.{Start}
use Rattle.master_state.specs.declared.states.Work.{Work}
use Rattle.master_state.specs.declared.states.Work.TheVariants as works
use Rattle.master_state.specs.States.{start_of}
use Rattle.master_state.specs.Refusals.{Call, MapDone, MapFailed, Withdraw, Die, Join, Add, Lose, Sweep}
use Rattle.master_state.specs.Refusals.{ReduceStart, PartDone, PartFailed, Backup}
use Rattle.master_state.specs.Changes.{after_wave}
use Rattle.master_state.specs.Jobs.{Job, Answers, IsNext, Plain}
use Rattle.master_state.specs.Steps.{Step}
use Rattle.script_text.specs.declared.script.Names.{Names}
use Rattle.script_text.specs.declared.script.Command.{Command}
use Rattle.script_text.specs.declared.script.Command.TheVariants as command
use Rattle.job_play.specs.Reports.{Aheads, IsTold, Performs, Does, DoesWork, FailsAttempt, FailsWork, Waves}
use Rattle.job_play.specs.Rooms.{starts_many, starts_one}
use Rattle.job_play.proofs.Few.{best_few, heads_few}

-- the attempts that a call may start
abbrev pub started_by : Call → ℕ
started_by ReduceStart = 1
started_by (Backup split w) = 1
started_by call = 0

-- one call, with its answer, which starts no more than the command may
pub record IsCalled (old new : Job) (c : Command) : Type 0 where
  pub call : Call
  pub given : Plain
  pub answers : Answers old call given new
  pub no_reduce : c ≢ command.Reduce → call ≢ ReduceStart
  pub starts : started_by call ≤ cond {A = ℕ} (starts_one c) 1 0

-- a wave or a plan ahead, which starts these pairs by one event, no more than the cluster has splits
pub record IsStarted (old new : Job) (c : Command) : Type 0 where
  pub pairs : List (ℕ × ℕ)
  pub event : Event
  pub place : ℕ
  pub next : IsNext old event [] place new
  pub step : Step old.setup old.state event new.state
  pub leads : new.state ≡ after_wave old.state pairs
  pub few : length pairs ≤ length old.setup.cluster.splits
  pub many : starts_many c ≡ true

abbrev pub IsDone : Job → Job → Command → Type 0
IsDone old new c = (new ≡ old) ⊎ (IsStarted old new c ⊎ IsCalled old new c)

started_wave : (names : Names) (old new : Job) (out : List ℕ) → Waves names old out new
    → IsStarted old new command.Wave
started_wave names old new out waves =
    let wave = waves.wave in
    let change = waves.committed.change in
    record {
      pairs = pairs_of waves.plan;
      event = events.Wave wave.first wave.count wave.cost;
      place = wave.place;
      next = waves.committed.next;
      step = (waves.plan, change);
      leads = change.leads;
      few = best_few old.setup old.state waves.plan change.best;
      many = refl;
    }

started_ahead : (names : Names) (asked : List ℕ) (old new : Job) (out : List ℕ) (c : Command)
    → starts_many c ≡ true → Aheads names asked old out new → IsStarted old new c
started_ahead names asked old new out c many aheads =
    let wave = aheads.wave in
    let change = aheads.committed.change in
    record {
      pairs = pairs_of aheads.starts;
      event = events.Ahead wave.first wave.count wave.cost;
      place = wave.place;
      next = aheads.committed.next;
      step = (asked, aheads.plan, aheads.starts, change);
      leads = change.leads;
      few = heads_few old.setup old.state asked aheads.plan aheads.starts change.best change.heads;
      many = many;
    }

called : (old new : Job) (c : Command) (call : Call) (after : Plain → List ℕ) (out : List ℕ)
    → (c ≢ command.Reduce → call ≢ ReduceStart) → started_by call ≤ cond {A = ℕ} (starts_one c) 1 0
    → IsTold old call after out new → IsCalled old new c
called old new c call after out no_reduce starts told = record {
  call = call;
  given = told.answer;
  answers = told.answers;
  no_reduce = no_reduce;
  starts = starts;
}

done_work : (old new : Job) (a : ℕ) (work : Work) (out : List ℕ) → DoesWork old a work out new
    → IsCalled old new (command.Done a)
done_work old new a (works.Split split) out does =
    called old new _ (MapDone a does.result) _ out (λ _ e. cc) (omega arith) does.is_told
done_work old new a (works.Part part) out does =
    called old new _ (PartDone a does.result) _ out (λ _ e. cc) (omega arith) does.is_told

done_attempt : (old new : Job) (a : ℕ) (start : Option Start) (out : List ℕ)
    → Does old a start out new → IsDone old new (command.Done a)
done_attempt old new a None out does = inl does.unchanged
done_attempt old new a (Some start) out does = inr (inr (done_work old new a start.work out does))

failed_work : (old new : Job) (a : ℕ) (work : Work) (out : List ℕ) → FailsWork old a work out new
    → IsCalled old new (command.Fail a)
failed_work old new a (works.Split split) out fails =
    called old new _ (MapFailed a) _ out (λ _ e. cc) (omega arith) fails
failed_work old new a (works.Part part) out fails =
    called old new _ (PartFailed a) _ out (λ _ e. cc) (omega arith) fails

failed_attempt : (old new : Job) (a : ℕ) (start : Option Start) (out : List ℕ)
    → FailsAttempt old a start out new → IsDone old new (command.Fail a)
failed_attempt old new a None out fails = inl fails.unchanged
failed_attempt old new a (Some start) out fails = inr (inr (failed_work old new a start.work out fails))

pub is_done : (names : Names) (target : ℕ) (old new : Job) (c : Command) (out : List ℕ)
    → Performs names target old c out new → IsDone old new c
is_done names target old new command.Wave out done = inr (inl (started_wave names old new out done))
is_done names target old new (command.Ahead places) out done =
    inr (inl (started_ahead names places.items old new out (command.Ahead places) refl done))
is_done names target old new (command.Done a) out done =
    done_attempt old new a (start_of old.state a) out done
is_done names target old new (command.Fail a) out done =
    failed_attempt old new a (start_of old.state a) out done
is_done names target old new (command.Withdraw a) out done =
    inr (inr (called old new _ (Withdraw a) _ out (λ _ e. cc) (omega arith) done))
is_done names target old new (command.Backup s w) out done =
    inr (inr (called old new _ (Backup s w) _ out (λ _ e. cc) (omega arith) done))
is_done names target old new (command.Die w) out done =
    inr (inr (called old new _ (Die w) _ out (λ _ e. cc) (omega arith) done))
is_done names target old new (command.Join w splits) out done =
    inr (inr (called old new _ (Join w _) _ out (λ _ e. cc) (omega arith) done))
is_done names target old new (command.Add s w) out done =
    inr (inr (called old new _ (Add s w) _ out (λ _ e. cc) (omega arith) done))
is_done names target old new (command.Lose s w) out done =
    inr (inr (called old new _ (Lose s w) _ out (λ _ e. cc) (omega arith) done))
is_done names target old new (command.Sweep counts) out done =
    inr (inr (called old new _ (Sweep _) _ out (λ _ e. cc) (omega arith) done))
is_done names target old new command.Reduce out done =
    inr (inr (called old new _ ReduceStart _ out (λ other _. other refl) (omega arith) done))
is_done names target old new command.Copies out done = inl done.unchanged
