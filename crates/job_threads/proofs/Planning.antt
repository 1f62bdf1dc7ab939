-- What the calling thread sees of a plan.
use Rattle.std.proofs.Common.{◌≡◌, ℕ, ◌≤◌, List, [], ◌∷◌, Option, Some, None, All, map, sym, subst, arith}
use Rattle.std.proofs.lemmas.List.Elements.{All-cons, All-nil}
use Rattle.std.proofs.lemmas.Option.{same_Some}
use Rattle.std.specs.Prelude.{Ok, Err}
use Rattle.std.specs.declared.result.Result.{Result}
use Rattle.wave_problem.specs.declared.TheConstants.{MAX_SLOTS}
use Rattle.master_state.specs.declared.events.Event.{Event}
use Rattle.master_state.specs.States.{Setup}
use Rattle.hand_ledger.specs.Hands.{HandValue}
use Rattle.shared_master.specs.Aheads.{AheadsAs, IsAheadStepOf}
use Rattle.shared_master.specs.Waves.{AreKeptAs, WavesAs, ahead_event, wave_event}
use Rattle.shared_master.specs.declared.waves.SharedWave.{SharedWave}
use Rattle.shared_master.specs.declared.waves.WaveError.{WaveError}
use Rattle.job_threads.specs.Steps.{IsPlanned, PlansAs, places, queues_of}

-- the starts of a plan are kept with their event
pub kept_of : (setup : Setup) (queues : Option (List ℕ)) (hand : HandValue) (shared : SharedWave)
    (after : HandValue) → IsPlanned setup queues hand shared after →
    (event : Event) × AreKeptAs setup hand event shared after
kept_of setup None hand shared after is = (
  wave_event shared.wave,
  record {
    hand_is = is.hand_is;
    above = is.above;
    room = is.room;
    count = is.count;
    few = is.few;
    maps = is.maps;
  },
)
kept_of setup (Some asked) hand shared after is = (ahead_event shared.wave, is.0)

pub aheads_plan : (setup : Setup) (queues : Option (List ℕ)) (asked : List ℕ) (hand : HandValue)
    (given : Result (Option SharedWave) WaveError) (after : HandValue) → queues ≡ Some asked →
    AheadsAs setup hand given after → IsAheadStepOf setup hand asked given after →
    PlansAs setup queues hand given after
aheads_plan setup queues asked hand (Ok (Some shared)) after is kept step =
    subst (λ (q : Option (List ℕ)). PlansAs setup q hand (Ok (Some shared)) after) (sym is) (kept, step)
aheads_plan setup queues asked hand (Ok None) after is kept step =
    subst (λ (q : Option (List ℕ)). PlansAs setup q hand (Ok None) after) (sym is) (kept, step)
aheads_plan setup queues asked hand (Err e) after is kept step = kept

pub waves_plan : (setup : Setup) (queues : Option (List ℕ)) (hand : HandValue) (shared : SharedWave)
    (after : HandValue) → queues ≡ None → WavesAs setup hand (Ok shared) after →
    PlansAs setup queues hand (Ok (Some shared)) after
waves_plan setup queues hand shared after is kept =
    subst (λ (q : Option (List ℕ)). PlansAs setup q hand (Ok (Some shared)) after) (sym is) kept

-- no queue has more places than a worker may have slots
pub places_few : (waves : ℕ) (slots : List ℕ) → All (λ n. n ≤ MAX_SLOTS) (map (places waves) slots)
places_few waves [] = All-nil (λ n. n ≤ MAX_SLOTS)
places_few waves (n ∷ slots) =
    All-cons (λ n. n ≤ MAX_SLOTS) (places waves n) (map (places waves) slots) (grind arith)
    (places_few waves slots)

pub queues_few : (setup : Setup) (ahead : Option ℕ) (asked : List ℕ) → queues_of setup ahead ≡ Some asked →
    All (λ n. n ≤ MAX_SLOTS) asked
queues_few setup None asked is = absurd cc
queues_few setup (Some waves) asked is =
    subst (λ (l : List ℕ). All (λ n. n ≤ MAX_SLOTS) l) (same_Some _ _ is)
    (places_few waves setup.cluster.slots)

-- a plan that was answered
pub planned_so : (setup : Setup) (queues : Option (List ℕ)) (hand : HandValue) (shared : SharedWave)
    (given : Result (Option SharedWave) WaveError) (after : HandValue) → given ≡ Ok (Some shared) →
    PlansAs setup queues hand given after → IsPlanned setup queues hand shared after
planned_so setup queues hand shared given after is plans =
    subst (λ (r : Result (Option SharedWave) WaveError). PlansAs setup queues hand r after) is plans
