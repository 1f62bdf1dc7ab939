-- A master of which nothing has happened.
use Rattle.std.proofs.Common.{◌≡◌, ℕ, zero, suc, List, [], ◌∷◌, length, map, Some, refl, ap, ◌∙◌}
use Rattle.std.specs.Prelude.{replicate, slice_get}
use Rattle.word_map.specs.Runs.{MapView}
use Rattle.wave_problem.specs.Wave.{Split}
use Rattle.worker_table.specs.Workers.{Workers, opening_workers}
use Rattle.master_state.specs.declared.states.Attempt.{Attempt}
use Rattle.master_state.specs.declared.states.Start.{Start}
use Rattle.master_state.specs.declared.states.SplitState.TheVariants as states
use Rattle.master_state.specs.declared.states.PartState.{PartState}
use Rattle.master_state.specs.declared.states.PartState.TheVariants as part
use Rattle.master_state.specs.declared.events.Event.{Event}
use Rattle.master_state.specs.States.{Setup, State, IsWhole, AreAllowed, opening}
use Rattle.master_state.specs.Jobs.{IsKept}
use Rattle.shuffle_reduce.specs.Merged.{PartView}
use Rattle.master_tables.specs.declared.entries.SplitEntry.{SplitEntry}
use Rattle.master_tables.specs.declared.entries.SplitEntry.TheVariants.{Pending, Done}
use Rattle.master_tables.specs.Entries.{shown_as}
use Rattle.master_tables.specs.Kept.{AreOfSplits}
use Rattle.master_state.proofs.Keeping.{opening_is_kept}

all_pending : (splits : List Split) →
    map shown_as (map (λ _. Pending) splits) ≡ map (λ _. states.Pending) splits
all_pending [] = refl
all_pending (split ∷ splits) = ap (λ rest. states.Pending ∷ rest) (all_pending splits)

-- tables as they are at first make the opening state
pub opening_is : (setup : Setup) (workers : Workers) (holders : List (List ℕ)) (entries : List SplitEntry)
    (parts : List PartState) (starts : List Start) (sweeps : List (List ℕ)) (events : ℕ) →
    workers ≡ opening_workers setup.cluster.slots (length setup.cluster.splits) setup.cluster.silence
    setup.limits.events →
    holders ≡ map (λ split. split.holders) setup.cluster.splits →
    entries ≡ map (λ _. Pending) setup.cluster.splits → parts ≡ replicate setup.cluster.parts part.Pending →
    starts ≡ [] → sweeps ≡ [] → events ≡ 0 →
    record {
      workers = workers;
      holders = holders;
      splits = map shown_as entries;
      parts = parts;
      starts = starts;
      sweeps = sweeps;
      events = events;
    } ≡ opening setup
opening_is setup workers holders entries parts starts sweeps events a b c d e f g =
    let shown : map shown_as entries ≡ map (λ _. states.Pending) setup.cluster.splits =
    ap (map shown_as) c ∙ all_pending setup.cluster.splits in
    rw (a, b, shown, d, e, f, g) refl

-- and keep no result
none_done : (splits : List Split) (k : ℕ) (attempt : Attempt) (result : MapView) →
    slice_get (map (λ _. Pending) splits) k ≡ Some (Done attempt result) → ⊥
none_done [] k attempt result is = cc
none_done (split ∷ splits) zero attempt result is = cc
none_done (split ∷ splits) (suc k) attempt result is = none_done splits k attempt result is

pub made_from : (setup : Setup) (entries : List SplitEntry) →
    entries ≡ map (λ _. Pending) setup.cluster.splits →
    AreOfSplits setup entries
made_from setup entries is =
    rw is (λ k attempt result found. absurd (none_done setup.cluster.splits k attempt result found))

pub kept_from : (setup : Setup) (history : List Event) (state : State) (results : List PartView) →
    history ≡ [] → state ≡ opening setup → results ≡ [] → IsWhole setup.cluster → AreAllowed setup.limits →
    IsKept (record { setup = setup; history = history; state = state; results = results })
kept_from setup history state results none begun no_result whole small =
    rw (none, begun, no_result) (opening_is_kept setup whole small)
