-- What a plan ahead under the lock says to its caller.
use Rattle.std.proofs.Common.{◌≡◌, ℕ, ◌-◌, ◌≤◌, true, List, Option, Some, None, length, drop}
use Rattle.std.proofs.Common.{arith, sym, ap, subst, ◌∙◌}
use Rattle.std.specs.Prelude.{Ok, Err}
use Rattle.std.specs.declared.result.Result.{Result}
use Rattle.wave_problem.specs.Assignment.{pairs_of}
use Rattle.master_state.specs.declared.answers.Wave.{Wave}
use Rattle.master_state.specs.States.{Setup}
use Rattle.master_state.specs.Jobs.{IsCommittedAhead, IsKept, Job}
use Rattle.master_state.specs.Steps.{problem_of}
use Rattle.master_state.proofs.Ahead.{heads_assigned}
use Rattle.hand_ledger.specs.Hands.{HandValue, has_room, with_call}
use Rattle.shared_master.specs.declared.waves.SharedWave.{SharedWave}
use Rattle.shared_master.specs.declared.waves.WaveError.{WaveError}
use Rattle.shared_master.specs.Aheads.{AheadsAs, IsWaiting, QueuesAs}
use Rattle.shared_master.specs.Held.{IsMasterOf}
use Rattle.shared_master.specs.Steps.{IsOwn}
use Rattle.shared_master.specs.Waves.{ahead_event, kept_as}
use Rattle.shared_master.proofs.Waving.{assigned_few, by_ahead, noted_of, shared_starts, starts_kept}

-- heads are no more than there are splits
pub heads_few : (old : Job) (asked : List ℕ) (plan starts : List (Option ℕ)) (wave : Wave) (new : Job) →
    IsCommittedAhead old asked plan starts wave new → wave.count ≤ length old.setup.cluster.splits
heads_few old asked plan starts wave new committed =
    let change = committed.change in
    let problem = problem_of old.setup old.state in
    omega (
      arith,
      change.count_is,
      assigned_few old.setup old.state starts
          (heads_assigned problem asked plan starts change.priced.0 change.priced.1 change.heads),
    )

-- so a hand that has room for as many starts as there are splits has room for them
pub has_room-heads : (inside old : Job) (hand : HandValue) (asked : List ℕ) (plan starts : List (Option ℕ))
    (wave : Wave) (new : Job) → inside ≡ old → has_room hand 0 (length old.setup.cluster.splits) ≡ true →
    IsCommittedAhead inside asked plan starts wave new → has_room hand 0 wave.count ≡ true
has_room-heads inside old hand asked plan starts wave new same room committed =
    let few = heads_few old asked plan starts wave new
    (subst (λ (j : Job). IsCommittedAhead j asked plan starts wave new) same committed) in
    grind (arith, few, has_room)

-- the heads of a plan ahead, with their starts
pub queued_as : (inside old : Job) (hand : HandValue) (asked : List ℕ) (plan starts : List (Option ℕ))
    (wave : Wave) (shared : SharedWave) (new : Job) (after : HandValue) → inside ≡ old → IsOwn old hand →
    (IsWaiting old → ⊥) →
    has_room hand 0 wave.count ≡ true → IsCommittedAhead inside asked plan starts wave new → IsKept new →
    shared.wave ≡ wave → shared.starts.items ≡ drop (wave.first - 1) new.state.starts →
    after ≡ with_call hand (kept_as (ahead_event wave) shared) →
    QueuesAs old hand asked (Ok (Some shared)) new after
queued_as inside old hand asked plan starts wave shared new after same own ready room is kept tells started
    hand_is =
    let committed : IsCommittedAhead old asked plan starts shared.wave new =
    subst (λ (w : Wave). IsCommittedAhead old asked plan starts w new) (sym tells)
    (subst (λ (j : Job). IsCommittedAhead j asked plan starts wave new) same is) in (
      ready,
      (
        plan,
        starts,
        record {
          committed = committed;
          shares = shared_starts old hand (ahead_event shared.wave) starts shared new after own
              (ap (λ (w : Wave). has_room hand 0 w.count) tells ∙ room)
              (by_ahead old asked plan starts shared.wave new committed) kept
              (started ∙ ap (λ (w : Wave). drop (w.first - 1) new.state.starts) (sym tells))
              (hand_is
              ∙ ap (λ (w : Wave). with_call hand (kept_as (ahead_event w) shared)) (sym tells));
        },
      ),
    )

-- what planning ahead in one hold says to the caller
pub aheads_kept : (setup : Setup) (old : Job) (hand : HandValue) (asked : List ℕ)
    (given : Result (Option SharedWave) WaveError) (new : Job) (after : HandValue) → IsMasterOf setup old →
    QueuesAs old hand asked given new after → AheadsAs setup hand given after
aheads_kept setup old hand asked (Ok (Some shared)) new after of_job is =
    starts_kept setup old hand (ahead_event shared.wave) is.1.1 shared new after of_job
    (by_ahead old asked is.1.0 is.1.1 shared.wave new is.1.2.committed) is.1.2.shares
aheads_kept setup old hand asked (Ok None) new after of_job is = is.3
aheads_kept setup old hand asked (Err e) new after of_job is = noted_of setup old hand after e of_job is.2
