-- How many events and attempts commands make.
use Rattle.std.proofs.Common.{◌≡◌, ℕ, ◌+◌, ◌*◌, ◌<◌, ◌≤◌, Bool, true, List, [], ◌∷◌, ◌++◌, length, refl}
use Rattle.std.proofs.Common.{sym, ap, ◌∙◌, subst, arith, cond, min, take, drop, get_or, length-append}
use Rattle.std.proofs.Common.{inl, inr}
use Rattle.std.specs.Prelude.{fold, count_by}
use Rattle.std.proofs.lemmas.Bool.{leb-true, ltb-true, or_cases}
use Rattle.std.proofs.lemmas.List.{drop_more, take-append-drop}
use Rattle.std.proofs.lemmas.List.Sums.{sum_by-cons}
use Rattle.worker_table.specs.Workers.{silent_in, swept}
use Rattle.master_state.specs.declared.answers.Answer.TheVariants as answer
use Rattle.master_state.specs.declared.states.Start.{Start}
use Rattle.master_state.specs.declared.states.Work.{Work}
use Rattle.master_state.specs.declared.states.Work.TheVariants as works
use Rattle.master_state.specs.States.{Cluster, Setup, State}
use Rattle.master_state.specs.Refusals.{Call, has_no_room, is_full, Sweep, ReduceStart, Backup}
use Rattle.master_state.specs.Changes.{after, died, split_started}
use Rattle.master_state.specs.Jobs.{Job, Answers, Plain}
use Rattle.script_text.specs.declared.script.Names.{Names}
use Rattle.script_text.specs.declared.script.Command.{Command}
use Rattle.job_play.specs.Reports.{Performs, PerformsAll, LacksRoom, opening_job}
use Rattle.job_play.specs.Playing.{PerformedAll}
use Rattle.job_play.specs.Rooms.{RunsOut, attempts_for, starts_many, starts_one, setup_for}
use Rattle.script_text.specs.declared.script.Script.{Script}
use Rattle.job_play.proofs.Calls.{IsStarted, is_done, started_by}
use Rattle.job_play.proofs.Few.{allowed, may_start_few}
use Rattle.job_play.proofs.Kept.{performs_setup}

-- ---- what a change adds

died_events : (s : State) (workers : List ℕ) → (fold died s workers).events ≡ s.events
died_events s [] = refl
died_events s (w ∷ workers) = died_events (died s w) workers

died_starts : (s : State) (workers : List ℕ) → (fold died s workers).starts ≡ s.starts
died_starts s [] = refl
died_starts s (w ∷ workers) = died_starts (died s w) workers

started_events : (s : State) (pairs : List (ℕ × ℕ)) →
    (fold (λ now pair. split_started now pair.0 pair.1) s pairs).events ≡ s.events
started_events s [] = refl
started_events s (pair ∷ pairs) = started_events (split_started s pair.0 pair.1) pairs

started_count : (s : State) (pairs : List (ℕ × ℕ)) →
    length (fold (λ now pair. split_started now pair.0 pair.1) s pairs).starts ≡ length s.starts
    + length pairs
started_count s [] = omega arith
started_count s (pair ∷ pairs) =
    let more = started_count (split_started s pair.0 pair.1) pairs in
    let one : Start = record { work = works.Split pair.0; worker = pair.1 } in
    omega (arith, more, length-append s.starts (one ∷ []))

-- the state after some starts, and one event more
pub record Adds (old new : State) (count : ℕ) : Type 0 where
  pub events : new.events ≤ old.events + 1
  pub starts : length new.starts ≤ length old.starts + count

adds_one : (s new : State) (work : Work) (w : ℕ) → new.events ≡ s.events + 1 →
    new.starts ≡ s.starts ++ record { work = work; worker = w } ∷ [] → Adds s new 1
adds_one s new work w events starts =
    let one : Start = record { work = work; worker = w } in
    record {
      events = omega (arith, events);
      starts = omega (arith, ap length starts, length-append s.starts (one ∷ []));
    }

adds_none : (s new : State) → new.events ≡ s.events + 1 → new.starts ≡ s.starts → Adds s new 0
adds_none s new events starts =
    record { events = omega (arith, events); starts = omega (arith, ap length starts) }

adds_after : (s : State) (call : Call) → Adds s (after s call) (started_by call)
adds_after s (Sweep counts) =
    let heard : State = record s {
      workers = swept s.workers counts;
      sweeps = s.sweeps ++ counts ∷ [];
    } in
    let dead = silent_in (swept s.workers counts) in
    adds_none s (after s (Sweep counts)) (ap (λ (n : ℕ). n + 1) (died_events heard dead))
    (died_starts heard dead)
adds_after s ReduceStart = adds_one s (after s ReduceStart) _ _ refl refl
adds_after s (Backup split w) = adds_one s (after s (Backup split w)) _ _ refl refl
adds_after s call = adds_none s (after s call) refl refl

-- ---- what a command adds

adds_same : (old new : Job) (count : ℕ) → new ≡ old → Adds old.state new.state count
adds_same old new count same =
    let events : new.state.events ≡ old.state.events = ap (λ (j : Job). j.state.events) same in
    let starts : length new.state.starts ≡ length old.state.starts =
    ap (λ (j : Job). length j.state.starts) same in
    record { events = omega (arith, events); starts = omega (arith, starts) }

adds_answered : (old new : Job) (call : Call) (given : Plain) → Answers old call given new →
    Adds old.state new.state (started_by call)
adds_answered old new call (answer.Accepted place rest) answers =
    subst (λ (s : State). Adds old.state s (started_by call)) (sym answers.change.leads)
    (adds_after old.state call)
adds_answered old new call (answer.Ignored why rest) answers =
    adds_same old new (started_by call) answers.same

adds_started : (old new : Job) (c : Command) → IsStarted old new c →
    Adds old.state new.state (length old.setup.cluster.splits)
adds_started old new c started =
    let events : new.state.events ≡ old.state.events + 1 =
    ap (λ (s : State). s.events) started.leads
    ∙ ap (λ (n : ℕ). n + 1) (started_events old.state started.pairs) in
    let starts : length new.state.starts ≡ length old.state.starts + length started.pairs =
    ap (λ (s : State). length s.starts) started.leads ∙ started_count old.state started.pairs in
    record { events = omega (arith, events); starts = omega (arith, starts, started.few) }

no_more : (old new : State) (few many : ℕ) → few ≤ many → Adds old new few → Adds old new many
no_more old new few many most made =
    record { events = made.events; starts = omega (arith, most, made.starts) }

adds : (names : Names) (target : ℕ) (old new : Job) (c : Command) (out : List ℕ) →
    Performs names target old c out new →
    Adds old.state new.state (allowed (length old.setup.cluster.splits) c)
adds names target old new c out done = elim (is_done names target old new c out done) [
  | inl same ↦ adds_same old new _ same
  | inr (inl started) ↦
      let splits = length old.setup.cluster.splits in
      let many : cond {A = ℕ} (starts_many c) 1 0 ≡ 1 = ap (λ (b : Bool). cond {A = ℕ} b 1 0) started.many in
      let all : splits ≤ allowed splits c = omega (arith, ap (λ (n : ℕ). splits * n) many) in
      no_more _ _ splits _ all (adds_started old new c started)
  | inr (inr called) ↦
      no_more _ _ (started_by called.call) _ (omega (arith, called.starts))
      (adds_answered old new called.call called.given called.answers)
]

-- ---- what commands add

attempts-cons : (splits : ℕ) (c : Command) (commands : List Command) →
    attempts_for splits (c ∷ commands) ≡ allowed splits c + attempts_for splits commands
attempts-cons splits c commands =
    let many : count_by starts_many (c ∷ commands)
    ≡ cond {A = ℕ} (starts_many c) 1 0 + count_by starts_many commands =
    sum_by-cons (λ (x : Command). cond {A = ℕ} (starts_many x) 1 0) c commands in
    let single : count_by starts_one (c ∷ commands)
    ≡ cond {A = ℕ} (starts_one c) 1 0 + count_by starts_one commands =
    sum_by-cons (λ (x : Command). cond {A = ℕ} (starts_one x) 1 0) c commands in
    (λ i. splits * many i + single i) ∙ omega arith

attempts-append : (splits : ℕ) (commands later : List Command) →
    attempts_for splits (commands ++ later) ≡ attempts_for splits commands + attempts_for splits later
attempts-append splits [] later = omega arith
attempts-append splits (c ∷ commands) later =
    omega (
      arith,
      attempts-cons splits c (commands ++ later),
      attempts-cons splits c commands,
      attempts-append splits commands later,
    )

pub record AddsAll (old new : State) (splits : ℕ) (commands : List Command) : Type 0 where
  pub events : new.events ≤ old.events + length commands
  pub starts : length new.starts ≤ length old.starts + attempts_for splits commands

pub adds_all : (names : Names) (target : ℕ) (old new : Job) (commands : List Command) (out : List ℕ) →
    PerformsAll names target old commands out new →
    AddsAll old.state new.state (length old.setup.cluster.splits) commands
adds_all names target old new [] out done =
    let events : new.state.events ≡ old.state.events = ap (λ (j : Job). j.state.events) done.1 in
    let starts : length new.state.starts ≡ length old.state.starts =
    ap (λ (j : Job). length j.state.starts) done.1 in
    record { events = omega (arith, events); starts = omega (arith, starts) }
adds_all names target old new (c ∷ commands) out done =
    let mid = done.0 in
    let splits : ℕ = length old.setup.cluster.splits in
    let first = adds names target old mid c done.1 done.3 in
    let same : length mid.setup.cluster.splits ≡ splits =
    ap (λ (s : Setup). length s.cluster.splits) (performs_setup names target old mid c done.1 done.3) in
    let rest = subst (λ (n : ℕ). AddsAll mid.state new.state n commands) same
    (adds_all names target mid new commands done.2 done.4) in
    record {
      events = omega (arith, first.events, rest.events);
      starts = omega (arith, first.starts, rest.starts, attempts-cons splits c commands);
    }

-- where there is no room for the starts of a command, not even the greatest number of attempts is enough
pub too_many : (cluster : Cluster) (script : Script) (job : Job) (before later : List Command) (c : Command)
    (out : List ℕ) → script.commands.items ≡ before ++ c ∷ later →
    PerformsAll script.names script.target (opening_job (setup_for cluster script)) before out job →
    job.setup ≡ setup_for cluster script → (lacks : LacksRoom job c) →
    1000000 < length job.state.starts + lacks.count
too_many cluster script job before later c out are performs same lacks =
    let setup = setup_for cluster script in
    let commands = script.commands.items in
    let splits : ℕ = length cluster.splits in
    let count : ℕ = lacks.count in
    let all = adds_all script.names script.target (opening_job setup) job before out performs in
    let few : count ≤ allowed splits c =
    subst (λ (s : Setup). count ≤ allowed (length s.cluster.splits) c) same
    (may_start_few job c count lacks.may_start) in
    let total : attempts_for splits commands
    ≡ attempts_for splits before + (allowed splits c + attempts_for splits later) =
    ap (attempts_for splits) are ∙ attempts-append splits before (c ∷ later)
    ∙ ap (λ (n : ℕ). attempts_for splits before + n) (attempts-cons splits c later) in
    let events : length commands ≡ length before + (1 + length later) =
    ap length are ∙ length-append before (c ∷ later) ∙ omega arith in
    let full : has_no_room setup job.state count ≡ true =
    subst (λ (s : Setup). has_no_room s job.state count ≡ true) same lacks.full in
    elim (or_cases (is_full setup job.state) _ full) [
      | inl over ↦ absurd (omega (
        arith,
        leb-true (length commands) job.state.events over,
        all.events,
        events,
      ))
      | inr short ↦
          let past = ltb-true (min 1000000 (attempts_for splits commands)) (length job.state.starts
          + count)
          short in
          omega (arith, past, all.starts, few, total)
    ]

-- a command whose starts lack room, after the commands before it
pub runs_out : (script : Script) (commands : List Command) (first job : Job) (i : ℕ) (c : Command)
    (a b : List ℕ) →
    commands ≡ script.commands.items → first ≡ opening_job (setup_for first.setup.cluster script) →
    i < length commands → c ≡ get_or commands i c → job.setup ≡ first.setup →
    PerformedAll script.names script.target first (take i commands) a b job → LacksRoom job c →
    RunsOut first.setup.cluster script
runs_out script commands first job i c a b all opening below is same played lacks =
    let before : List Command = take i commands in
    let later : List Command = drop (i + 1) commands in
    let are : script.commands.items ≡ before ++ c ∷ later =
    sym all ∙ sym (take-append-drop i commands)
    ∙ ap (λ (cs : List Command). before ++ cs) (drop_more commands i c below)
    ∙ ap (λ (x : Command). before ++ x ∷ later) (sym is) in
    let performs = subst
    (λ (j : Job). PerformsAll script.names script.target j before played.out job)
    opening played.performs in
    record {
      before = before;
      full = c;
      later = later;
      commands_are = are;
      out = played.out;
      job = job;
      legal = lacks.legal;
      performs = performs;
      count = lacks.count;
      may_start = lacks.may_start;
      too_many = too_many first.setup.cluster script job before later c played.out are performs
          (same ∙ ap (λ (j : Job). j.setup) opening) lacks;
    }
