-- What a wave under the lock says to its caller.
use Rattle.std.proofs.Common.{◌≡◌, ℕ, suc, ◌+◌, ◌-◌, ◌<◌, ◌≤◌, ◌&&◌, ◌||◌, ◌^◌, Bool, true, false, List, []}
use Rattle.std.proofs.Common.{◌∷◌, ◌++◌}
use Rattle.std.proofs.Common.{length, map, drop, Option, Some, None, All, refl, sym, ap, subst, ◌∙◌}
use Rattle.std.proofs.Common.{append_assoc}
use Rattle.std.proofs.Common.{arith, inl, inr}
use Rattle.std.specs.Prelude.{fold, not, vec_capacity, zip, IfOk, Ok, Err}
use Rattle.std.specs.declared.result.Result.{Result}
use Rattle.flow_network.specs.declared.kinds.NetworkKind.TheVariants.{Racks}
use Rattle.wave_planner.specs.Planned.{IsMadeOver}
use Rattle.price_certificate.specs.Certificate.{Certifies, HasOneSize, claim}
use Rattle.std.proofs.Math.Bool.{and-false}
use Rattle.std.proofs.lemmas.Bool.{ltb-false}
use Rattle.std.proofs.Math.Seq.{drop-append_seam}
use Rattle.std.proofs.lemmas.List.{append-nil, length-append, length-drop, length-map}
use Rattle.std.proofs.lemmas.List.Elements.{All-cons, All-head, All-nil, All-tail}
use Rattle.std.proofs.lemmas.Slice.Zip.{length-zip}
use Rattle.wave_problem.specs.Assignment.{IsAssignment, IsBest, Plan, pairs_from, pairs_of}
use Rattle.wave_problem.proofs.Bound.{pending_known}
use Rattle.wave_problem.specs.Wave as wave
use Rattle.price_certificate.specs.PriceList.{PriceList}
use Rattle.master_state.specs.declared.answers.Wave.{Wave}
use Rattle.master_state.specs.declared.events.Event.{Event}
use Rattle.master_state.specs.declared.states.Work.TheVariants as works
use Rattle.master_state.specs.declared.states.Start.{Start}
use Rattle.master_state.specs.States.{Setup, State, next_attempt}
use Rattle.master_state.specs.Changes.{after_wave, split_started}
use Rattle.master_state.specs.Jobs.{IsCommitted, IsCommittedAhead, IsKept, IsNext, Job, LacksRoomForBest}
use Rattle.master_state.specs.Jobs.{present}
use Rattle.master_state.specs.Steps.{problem_of, split_line}
use Rattle.master_state.specs.Refusals.{has_no_room, is_full}
use Rattle.master_state.specs.Tidy.{IsStartOf}
use Rattle.master_state.proofs.Lists.{All-right}
use Rattle.master_core.specs.Starts.{HasSizesOf}
use Rattle.hand_ledger.specs.Hands.{HandValue, has_room, last_place, with_call}
use Rattle.shared_master.specs.declared.waves.SharedWave.{SharedWave}
use Rattle.shared_master.specs.declared.waves.Solved.{Solved}
use Rattle.shared_master.specs.declared.waves.Uncommitted.{Uncommitted}
use Rattle.shared_master.specs.declared.waves.Uncommitted.TheVariants.{Refused}
use Rattle.shared_master.specs.declared.waves.WaveError.{WaveError}
use Rattle.shared_master.specs.declared.waves.WaveError.TheVariants.{HistoryFull, Memory, StrangeHand}
use Rattle.shared_master.specs.Held.{IsMasterOf}
use Rattle.shared_master.specs.Steps.{IsOwn}
use Rattle.shared_master.specs.Waves.{AreKeptAs, AreShared, CommitsAs, IsAsked, IsKeptWave}
use Rattle.shared_master.specs.Waves.{IsMadeOf, IsMapStart}
use Rattle.shared_master.specs.Waves.{IsNoWaveOf}
use Rattle.shared_master.specs.Waves.{IsLastWave, IsSharedWave, IsSolved, IsUnasked, IsUncommitted}
use Rattle.shared_master.specs.Waves.{IsUnplanned}
use Rattle.shared_master.specs.Waves.{IsMadeIn, PlansAs, SolvesAs, WavesAs, ahead_event, has_room_for}
use Rattle.shared_master.specs.Waves.{kept_as, noted_wave, wave_event}
use Rattle.shared_master.proofs.Stepping.{own_within}

both_first : (a b : Bool) → (a && b) ≡ true → a ≡ true
both_first true b is = refl
both_first false b is = absurd cc

second_false : (a b : Bool) → (a || b) ≡ false → b ≡ false
second_false true b is = absurd cc
second_false false b is = is

-- the attempts of a wave are within the room
few_attempts : (old : Job) (count first : ℕ) → has_no_room old.setup old.state count ≡ false →
    old.setup.limits.attempts ≤ 1000000 → first ≡ length old.state.starts + 1 → first + count < 2 ^ 32
few_attempts old count first room small is =
    let within : length old.state.starts + count ≤ old.setup.limits.attempts =
    ltb-false _ _ (second_false (is_full old.setup old.state) _ room) in
    omega arith

-- what waves and plans ahead have in common: an event started this plan
pub record AreStarted (old : Job) (event : Event) (plan : List (Option ℕ)) (wave : Wave) (new : Job)
    : Type 0 where
  pub leads : new.state ≡ after_wave old.state (pairs_of plan)
  pub first_is : wave.first ≡ next_attempt old.state
  pub count_is : wave.count ≡ length (pairs_of plan)
  pub room : has_no_room old.setup old.state (length (pairs_of plan)) ≡ false
  pub next : IsNext old event [] wave.place new

pub by_wave : (old : Job) (plan : List (Option ℕ)) (wave : Wave) (new : Job) → IsCommitted old plan wave new →
    AreStarted old (wave_event wave) plan wave new
by_wave old plan wave new committed = record {
  leads = committed.change.leads;
  first_is = committed.change.first_is;
  count_is = committed.change.count_is;
  room = committed.change.room;
  next = committed.next;
}

pub by_ahead : (old : Job) (asked : List ℕ) (plan starts : List (Option ℕ)) (wave : Wave) (new : Job) →
    IsCommittedAhead old asked plan starts wave new → AreStarted old (ahead_event wave) starts wave new
by_ahead old asked plan starts wave new committed = record {
  leads = committed.change.leads;
  first_is = committed.change.first_is;
  count_is = committed.change.count_is;
  room = committed.change.room;
  next = committed.next;
}

-- starts that are shared are kept
pub starts_kept : (setup : Setup) (old : Job) (hand : HandValue) (event : Event) (plan : List (Option ℕ))
    (shared : SharedWave) (new : Job) (after : HandValue) → IsMasterOf setup old →
    AreStarted old event plan shared.wave new → AreShared old hand event plan shared new after →
    AreKeptAs setup hand event shared after
starts_kept setup old hand event plan shared new after of_job started shares =
    let above : last_place hand.calls < shared.wave.place =
    grind (arith, own_within old hand shares.own, started.next.place_is) in
    let room : has_room hand 0 (length shared.starts.items) ≡ true =
    ap (has_room hand 0) (shares.count ∙ started.count_is) ∙ both_first _ _ shares.room in
    record {
      hand_is = shares.hand_is;
      above = above;
      room = room;
      count = shares.count;
      few = few_attempts old (length shared.starts.items) shared.wave.first
          (subst (λ (n : ℕ). has_no_room old.setup old.state n ≡ false)
          (sym (shares.count ∙ started.count_is)) started.room)
          of_job.kept.small.attempts started.first_is;
      maps = subst (λ (z : Setup). All (IsMapStart z) shared.starts.items) of_job.given shares.maps;
    }

pub wave_kept : (setup : Setup) (old : Job) (hand : HandValue) (plan : List (Option ℕ)) (prices : PriceList)
    (shared : SharedWave) (new : Job) (after : HandValue) → IsMasterOf setup old
    → IsMadeOf setup plan prices →
    IsSharedWave old hand plan prices shared new after → IsKeptWave setup hand shared after
wave_kept setup old hand plan prices shared new after of_job made wave =
    let kept = starts_kept setup old hand (wave_event shared.wave) plan shared new after of_job
    (by_wave old plan shared.wave new wave.committed) wave.shares in
    record {
      hand_is = kept.hand_is;
      above = kept.above;
      room = kept.room;
      count = kept.count;
      few = kept.few;
      maps = kept.maps;
      of_job = record {
        old = old;
        new = new;
        of_job = of_job;
        plan = plan;
        prices = prices;
        made = made;
        wave = wave;
      };
    }

-- the start of a pair
abbrev started : ℕ × ℕ → Start
started pair = record { work = works.Split pair.0; worker = pair.1 }

-- the starts of a wave are the last of all, one for each pair
all_started : (s : State) (pairs : List (ℕ × ℕ)) →
    (fold (λ (now : State) pair. split_started now pair.0 pair.1) s pairs).starts
    ≡ s.starts ++ map started pairs
all_started s [] = sym (append-nil s.starts)
all_started s (pair ∷ pairs) = grind (arith, all_started (split_started s pair.0 pair.1) pairs, append_assoc)

length-started : (s : State) (pairs : List (ℕ × ℕ)) →
    length (fold (λ (now : State) pair. split_started now pair.0 pair.1) s pairs).starts
    ≡ length s.starts + length pairs
length-started s pairs = grind (arith, all_started, length-append, length-map)

-- the starts of a wave that a master keeps for its cluster are map starts
all_maps : (setup : Setup) (pairs : List (ℕ × ℕ)) →
    All (IsStartOf setup) (map started pairs) → All (IsMapStart setup) (map started pairs)
all_maps setup [] known = All-nil (IsMapStart setup)
all_maps setup (pair ∷ pairs) known =
    let first : IsStartOf setup (started pair) = known 0 (started pair) (omega arith) in
    All-cons (IsMapStart setup) (started pair) (map started pairs)
    (record { work = first.work; worker = first.worker })
    (all_maps setup pairs (λ k d l. known (suc k) d (omega (arith, l))))

pub map_starts : (old : Job) (event : Event) (plan : List (Option ℕ)) (wave : Wave) (new : Job) →
    AreStarted old event plan wave new → IsKept new →
    All (IsMapStart old.setup) (drop (wave.first - 1) new.state.starts)
map_starts old event plan wave new is kept =
    let maps = map started (pairs_of plan) in
    let starts : new.state.starts ≡ old.state.starts ++ maps =
    ap (λ (s : State). s.starts) is.leads ∙ all_started old.state (pairs_of plan) in
    let before : wave.first - 1 ≡ length old.state.starts = omega (arith, is.first_is) in
    let from : drop (wave.first - 1) new.state.starts ≡ maps =
    (λ k. drop (before k) (starts k)) ∙ drop-append_seam old.state.starts maps in
    let known : All (IsStartOf new.setup) maps =
    All-right (IsStartOf new.setup) old.state.starts maps
    (subst (λ (l : List Start). All (IsStartOf new.setup) l) starts kept.tidy.known) in
    let known : All (IsStartOf old.setup) maps =
    subst (λ (z : Setup). All (IsStartOf z) maps) is.next.setup known in
    subst (λ (l : List Start). All (IsMapStart old.setup) l) (sym from)
    (all_maps old.setup (pairs_of plan) known)

-- what an event started is the last of its master
pub last_wave : (old : Job) (event : Event) (plan : List (Option ℕ)) (wave : Wave) (new : Job) →
    AreStarted old event plan wave new → IsLastWave new wave
last_wave old event plan wave new is = record {
  place = omega (arith, is.next.place_is, ap length is.next.history, length-append old.history (event ∷ []));
  first = omega (arith, is.first_is);
  within = grind (arith, is.leads, is.first_is, length-started);
  count = grind (arith, is.leads, is.first_is, is.count_is, length-started, length-drop);
}

-- starts under the lock, which the hand keeps with their event
pub shared_starts : (old : Job) (hand : HandValue) (event : Event) (plan : List (Option ℕ))
    (shared : SharedWave) (new : Job) (after : HandValue) → IsOwn old hand →
    has_room hand 0 shared.wave.count ≡ true → AreStarted old event plan shared.wave new → IsKept new →
    shared.starts.items ≡ drop (shared.wave.first - 1) new.state.starts →
    after ≡ with_call hand (kept_as event shared) → AreShared old hand event plan shared new after
shared_starts old hand event plan shared new after own room is kept starts hand_is =
    let fits : has_room hand 0 (length (pairs_of plan)) ≡ true =
    ap (has_room hand 0) (sym is.count_is) ∙ room in
    record {
      own = own;
      room = (λ k. fits k && not (is.room k));
      starts = starts;
      count = ap length starts ∙ (last_wave old event plan shared.wave new is).count;
      maps = subst (λ (l : List Start). All (IsMapStart old.setup) l) (sym starts)
          (map_starts old event plan shared.wave new is kept);
      hand_is = hand_is;
    }

-- a plan that was committed under the lock, with its starts
pub shared_wave : (inside old : Job) (hand : HandValue) (plan : List (Option ℕ)) (prices : PriceList)
    (wave : Wave) (shared : SharedWave) (new : Job) (after : HandValue) → inside ≡ old → IsOwn old hand →
    has_room hand 0 wave.count ≡ true →
    Certifies (present inside plan prices) × IsCommitted inside plan wave new → IsKept new →
    shared.wave ≡ wave → shared.starts.items ≡ drop (wave.first - 1) new.state.starts →
    after ≡ with_call hand (kept_as (wave_event wave) shared) →
    IsSharedWave old hand plan prices shared new after
shared_wave inside old hand plan prices wave shared new after same own room is kept tells starts hand_is =
    let committed : IsCommitted old plan shared.wave new =
    subst (λ (w : Wave). IsCommitted old plan w new) (sym tells)
    (subst (λ j. IsCommitted j plan wave new) same is.1) in
    record {
      certified = subst (λ j. Certifies (present j plan prices)) same is.0;
      committed = committed;
      shares = shared_starts old hand (wave_event shared.wave) plan shared new after own
          (ap (λ (w : Wave). has_room hand 0 w.count) tells ∙ room)
          (by_wave old plan shared.wave new committed) kept
          (starts ∙ ap (λ (w : Wave). drop (w.first - 1) new.state.starts) (sym tells))
          (hand_is ∙ ap (λ (w : Wave). with_call hand (kept_as (wave_event w) shared)) (sym tells));
    }

-- rising pairs of splits below n are no more than n
rising_few : (n k : ℕ) (plan : List (Option ℕ)) → All (λ (pair : ℕ × ℕ). pair.0 < n) (pairs_from k plan) →
    length (pairs_from k plan) ≤ n - k
rising_few n k [] below = omega arith
rising_few n k (None ∷ plan) below = omega (arith, rising_few n (k + 1) plan below)
rising_few n k (Some w ∷ plan) below =
    let here : k < n = All-head (λ (pair : ℕ × ℕ). pair.0 < n) (k, w) (pairs_from (k + 1) plan) below in
    let more = rising_few n (k + 1) plan
    (All-tail (λ (pair : ℕ × ℕ). pair.0 < n) (k, w) (pairs_from (k + 1) plan) below) in
    omega (arith, here, more)

-- an assignment starts no more splits than the cluster has
pub assigned_few : (setup : Setup) (s : State) (plan : List (Option ℕ)) →
    IsAssignment (problem_of setup s) (pairs_of plan) → length (pairs_of plan) ≤ length setup.cluster.splits
assigned_few setup s plan assigned =
    let wave = problem_of setup s in
    let few : length wave.splits ≤ length setup.cluster.splits = omega (
      arith,
      length-map (zip (zip setup.cluster.splits s.splits) s.holders)
          (λ line. split_line line.0.0 line.0.1 line.1),
      length-zip (zip setup.cluster.splits s.splits) s.holders,
      length-zip setup.cluster.splits s.splits,
    ) in
    let rising = rising_few (length wave.splits) 0 plan
    (λ i d inside. pending_known wave _ (assigned.admissible i d inside).pending) in
    omega (arith, few, rising)

-- a wave starts no more
pub wave_few : (old : Job) (plan : List (Option ℕ)) (wave : Wave) (new : Job) →
    IsCommitted old plan wave new → wave.count ≤ length old.setup.cluster.splits
wave_few old plan wave new committed = omega (
  arith,
  committed.change.count_is,
  assigned_few old.setup old.state plan committed.change.best.assignment,
)

-- so a hand that has room for as many starts as there are splits has room for any wave
pub has_room-wave : (inside old : Job) (hand : HandValue) (plan : List (Option ℕ)) (wave : Wave) (new : Job) →
    inside ≡ old → has_room hand 0 (length old.setup.cluster.splits) ≡ true →
    IsCommitted inside plan wave new → has_room hand 0 wave.count ≡ true
has_room-wave inside old hand plan wave new same room committed =
    let few = wave_few old plan wave new (subst (λ (j : Job). IsCommitted j plan wave new) same committed) in
    grind (arith, few, has_room)

-- a wave of a hand with so much room was planned in the state that it changes
pub planned_as : (inside old : Job) (hand : HandValue) (plan : List (Option ℕ)) (prices : PriceList)
    (wave : Wave) (shared : SharedWave) (new : Job) (after : HandValue) → inside ≡ old → IsOwn old hand →
    has_room hand 0 (length old.setup.cluster.splits) ≡ true → IsMadeIn inside plan prices →
    Certifies (present inside plan prices) → IsCommitted inside plan wave new → IsKept new →
    shared.wave ≡ wave → shared.starts.items ≡ drop (wave.first - 1) new.state.starts →
    after ≡ with_call hand (kept_as (wave_event wave) shared) → PlansAs old hand (Ok shared) new after
planned_as inside old hand plan prices wave shared new after same own room made certifies committed kept
    tells starts
    hand_is =
    let fits = has_room-wave inside old hand plan wave new same room committed in (
      plan,
      prices,
      subst (λ (j : Job). IsMadeIn j plan prices) same made,
      shared_wave inside old hand plan prices wave shared new after same own fits (certifies, committed)
          kept tells
          starts hand_is,
    )

-- or its master lacks room for the starts of a best plan
pub unplanned_as : (inside old : Job) (hand : HandValue) → inside ≡ old → IsOwn old hand →
    LacksRoomForBest inside → IsUnplanned old hand HistoryFull
unplanned_as inside old hand same own lacks =
    let here : LacksRoomForBest old = subst LacksRoomForBest same lacks in
    let full : has_room_for old hand here.plan ≡ false =
    (λ k. has_room hand 0 (length (pairs_of here.plan)) && not (here.full k))
    ∙ and-false (has_room hand 0 (length (pairs_of here.plan))) in
    (own, inr (here.plan, here.best, full))

-- what a hand notes of an error, by the number of the job's splits
pub noted_of : (setup : Setup) (job : Job) (hand after : HandValue) (e : WaveError) → IsMasterOf setup job →
    after ≡ noted_wave (length job.setup.cluster.splits) hand e →
    after ≡ noted_wave (length setup.cluster.splits) hand e
noted_of setup job hand after e of_job is =
    is ∙ ap (λ (z : Setup). noted_wave (length z.cluster.splits) hand e) of_job.given

pub unasked : (setup : Setup) (job : Job) (hand : HandValue) (e : WaveError) (after : HandValue) →
    IsMasterOf setup job → IsUnasked job hand e →
    after ≡ noted_wave (length job.setup.cluster.splits) hand e → IsNoWaveOf setup hand e after
unasked setup job hand StrangeHand after of_job why is = record {
  job = job;
  of_job = of_job;
  why = why;
  hand_is = noted_of setup job hand after StrangeHand of_job is;
}
unasked setup job hand HistoryFull after of_job why is = record {
  job = job;
  of_job = of_job;
  why = (why.0, inl why.1);
  hand_is = noted_of setup job hand after HistoryFull of_job is;
}
unasked setup job hand Memory after of_job why is = record {
  job = job;
  of_job = of_job;
  why = why.0;
  hand_is = noted_of setup job hand after Memory of_job is;
}

-- a plan and prices of one size with a problem of the job fit the job
fits_of : (setup : Setup) (problem : wave.Wave) (plan : Plan) (prices : PriceList) →
    HasOneSize (claim problem plan.starts prices) plan.workers →
    length problem.splits ≡ length setup.cluster.splits →
    length problem.workers ≡ length setup.cluster.slots → HasSizesOf setup plan prices
fits_of setup problem plan prices size splits workers = grind arith

-- a solution, or want of memory for it
pub solved_as : (setup : Setup) (job : Job) (hand : HandValue) (problem : wave.Wave)
    (given : Result Solved WaveError) (after : HandValue) → IsMasterOf setup job →
    IsAsked job hand problem → after ≡ hand →
    length problem.splits ≡ length setup.cluster.splits →
    length problem.workers ≡ length setup.cluster.slots →
    IfOk given (λ s. IsMadeOver Racks problem s.planned.plan.starts s.planned.prices) →
    IfOk given (λ s. IsBest problem (pairs_of s.planned.plan.starts)) →
    IfOk given (λ s. HasOneSize (claim problem s.planned.plan.starts s.planned.prices)
    s.planned.plan.workers) →
    IfOk given (λ s. s.starts.items ≡ []) →
    IfOk given (λ s. length (pairs_of s.planned.plan.starts) ≤ vec_capacity s.starts) →
    ((e : WaveError) → given ≡ Err e → e ≡ Memory) → SolvesAs setup hand given after
solved_as setup job hand problem (Ok solved) after of_job asked same splits workers over best size
    starts room err = (
      record {
        planned = job;
        of_job = of_job;
        made = subst (λ (p : wave.Wave). IsMadeOver Racks p solved.planned.plan.starts solved.planned.prices)
            asked.present over;
        best = subst (λ (p : wave.Wave). IsBest p (pairs_of solved.planned.plan.starts)) asked.present best;
        fits = fits_of setup problem solved.planned.plan solved.planned.prices size splits workers;
        starts = starts;
        room = room;
      },
      same,
    )
solved_as setup job hand problem (Err e) after of_job asked same splits workers over best size
    starts room err =
    let memory : e ≡ Memory = err e refl in
    subst (λ (m : WaveError). IsNoWaveOf setup hand m after) (sym memory) (record {
      job = job;
      of_job = of_job;
      why = asked.own;
      hand_is = same;
    })

-- of a plan that is best in an earlier state
pub uncommitted : (setup : Setup) (planned job : Job) (hand : HandValue) (plan : List (Option ℕ))
    (prices : PriceList) (e : WaveError) (after : HandValue) → IsMasterOf setup planned →
    IsBest (problem_of planned.setup planned.state) (pairs_of plan) → IsMasterOf setup job →
    IsUncommitted job hand plan prices (Refused e) →
    after ≡ noted_wave (length job.setup.cluster.splits) hand e → IsNoWaveOf setup hand e after
uncommitted setup planned job hand plan prices StrangeHand after before best of_job why is = record {
  job = job;
  of_job = of_job;
  why = why;
  hand_is = noted_of setup job hand after StrangeHand of_job is;
}
uncommitted setup planned job hand plan prices HistoryFull after before best of_job why is = record {
  job = job;
  of_job = of_job;
  why = (
    why.0,
    inr (record { planned = planned; of_job = before; plan = plan; best = best; full = why.1 }),
  );
  hand_is = noted_of setup job hand after HistoryFull of_job is;
}
uncommitted setup planned job hand plan prices Memory after before best of_job why is = record {
  job = job;
  of_job = of_job;
  why = why.0;
  hand_is = noted_of setup job hand after Memory of_job is;
}

-- a plan that is solved, but not committed, for what is told under the lock
pub refused_as : (setup : Setup) (job : Job) (hand held : HandValue) (solved : Solved)
    (given : Result SharedWave Uncommitted) (e : WaveError) (new : Job) (after : HandValue) →
    IsSolved setup solved → held ≡ hand → IsMasterOf setup job →
    CommitsAs job held solved.planned.plan.starts solved.planned.prices given new after →
    given ≡ Err (Refused e) → IsNoWaveOf setup hand e after
refused_as setup job hand held solved given e new after is same of_job committed refused =
    let plan = solved.planned.plan.starts in
    let prices = solved.planned.prices in
    let here = subst (λ (h : HandValue). CommitsAs job h plan prices given new after) same committed in
    let told : CommitsAs job hand plan prices (Err (Refused e)) new after =
    subst (λ (r : Result SharedWave Uncommitted). CommitsAs job hand plan prices r new after) refused here in
    uncommitted setup is.planned job hand plan prices e after is.of_job is.best of_job told.0 told.2

-- and one that is committed
pub committed_as : (setup : Setup) (job : Job) (hand held : HandValue) (plan : List (Option ℕ))
    (prices : PriceList) (given : Result SharedWave Uncommitted) (shared : SharedWave) (new : Job)
    (after : HandValue) → held ≡ hand → IsMasterOf setup job → IsMadeOf setup plan prices →
    CommitsAs job held plan prices given new after → given ≡ Ok shared → IsKeptWave setup hand shared after
committed_as setup job hand held plan prices given shared new after same of_job made committed told =
    let here = subst (λ (h : HandValue). CommitsAs job h plan prices given new after) same committed in
    let wave : CommitsAs job hand plan prices (Ok shared) new after =
    subst (λ (r : Result SharedWave Uncommitted). CommitsAs job hand plan prices r new after) told here in
    wave_kept setup job hand plan prices shared new after of_job made wave

unplanned : (setup : Setup) (old : Job) (hand : HandValue) (e : WaveError) (after : HandValue) →
    IsMasterOf setup old → IsUnplanned old hand e →
    after ≡ noted_wave (length old.setup.cluster.splits) hand e → IsNoWaveOf setup hand e after
unplanned setup old hand StrangeHand after of_job why is =
    unasked setup old hand StrangeHand after of_job why is
unplanned setup old hand Memory after of_job why is = unasked setup old hand Memory after of_job why is
unplanned setup old hand HistoryFull after of_job why is = elim why.1 [
  | inl full ↦ unasked setup old hand HistoryFull after of_job (why.0, full) is
  | inr lacks ↦
      record {
        job = old;
        of_job = of_job;
        why = (
          why.0,
          inr (record {
            planned = old;
            of_job = of_job;
            plan = lacks.0;
            best = lacks.1;
            full = lacks.2;
          }),
        );
        hand_is = noted_of setup old hand after HistoryFull of_job is;
      }
]

-- what planning and committing in one hold says to the caller
pub plans_kept : (setup : Setup) (old : Job) (hand : HandValue) (given : Result SharedWave WaveError)
    (new : Job) (after : HandValue) → IsMasterOf setup old → PlansAs old hand given new after →
    WavesAs setup hand given after
plans_kept setup old hand (Ok shared) new after of_job is =
    wave_kept setup old hand is.0 is.1 shared new after of_job
    (record { planned = old; of_job = of_job; made = is.2 }) is.3
plans_kept setup old hand (Err e) new after of_job is = unplanned setup old hand e after of_job is.0 is.2
