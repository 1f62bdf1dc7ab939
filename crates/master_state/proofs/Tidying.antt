-- What makes a state tidy.
use Rattle.std.proofs.Common.{◌≡◌, ℕ, ◌+◌, ◌≤◌, List, length, true, refl, All, ◌∙◌}
use Rattle.std.specs.Prelude.{count_by, ◌≢◌, Some}
use Rattle.std.proofs.lemmas.List.Elements.{All-weaker}
use Rattle.worker_table.specs.Workers.{Workers, is_live, taken_slots}
use Rattle.master_state.specs.declared.states.Attempt.{Attempt}
use Rattle.master_state.specs.declared.states.Work.TheVariants as works
use Rattle.master_state.specs.declared.states.SplitState.TheVariants.{Running, Done}
use Rattle.master_state.specs.States.{Setup, State}
use Rattle.master_state.specs.Tests.{is_on, attempts_of, part_attempts, all_running, split_at, part_at}
use Rattle.master_state.specs.Changes.{counted}
use Rattle.master_state.specs.Tidy.{IsTidy, IsStartOf, IsToldAs, AreHolders}
use Rattle.master_state.proofs.Numbers.{given-told, once-told}
use Rattle.master_state.proofs.Slots.{IsFit}

-- the sizes are those of the cluster, no room is passed, and the starts are of the cluster
pub record HasSizes (setup : Setup) (s : State) : Type 0 where
  pub holders : length s.holders ≡ length setup.cluster.splits
  pub splits : length s.splits ≡ length setup.cluster.splits
  pub parts : length s.parts ≡ setup.cluster.parts
  pub known : All (IsStartOf setup) s.starts
  pub events : s.events ≤ setup.limits.events
  pub attempts : length s.starts ≤ setup.limits.attempts
  pub sweeps : length s.sweeps ≤ setup.limits.sweeps

-- the starts tell of each attempt what it runs
pub record IsTold (s : State) : Type 0 where
  pub apart : (split : ℕ) (a b : Attempt) → split_at s split ≡ Running a (Some b) → a.worker ≢ b.worker
  pub told : (split : ℕ) → All (IsToldAs s (works.Split split)) (attempts_of (split_at s split))
  pub told_parts : (r : ℕ) → All (IsToldAs s (works.Part r)) (part_attempts (part_at s r))
  pub told_done : (split : ℕ) (a : Attempt) → split_at s split ≡ Done a → IsToldAs s (works.Split split) a

-- the table fits, what runs takes its slots and lives, and the starts tell of it
pub tidy_made : (setup : Setup) (s : State) → IsFit setup s.workers → HasSizes setup s →
    All (AreHolders s.workers) s.holders →
    ((w : ℕ) → taken_slots s.workers w ≡ count_by (is_on w) (all_running s)) →
    All (λ attempt. is_live s.workers attempt.worker ≡ true) (all_running s) → IsTold s → IsTidy setup s
tidy_made setup s fit sizes held taken live starts = record {
  slots = fit.slots;
  limit = fit.limit;
  bars = fit.bars;
  holders = sizes.holders;
  splits = sizes.splits;
  parts = sizes.parts;
  events = sizes.events;
  attempts = sizes.attempts;
  sweeps = sizes.sweeps;
  known = sizes.known;
  held = held;
  within = fit.within;
  taken = taken;
  live = live;
  given = given-told s starts.told starts.told_parts;
  once = once-told s starts.told starts.told_parts starts.apart;
  apart = starts.apart;
  told = starts.told;
  told_parts = starts.told_parts;
  told_done = starts.told_done;
}

pub fit_of : (setup : Setup) (s : State) → IsTidy setup s → IsFit setup s.workers
fit_of setup s tidy = record {
  slots = tidy.slots;
  limit = tidy.limit;
  bars = tidy.bars;
  within = tidy.within;
}

-- a state is tidy still with another table of workers and other holders, of which the same is known
pub tidy_tables : (setup : Setup) (s : State) (workers : Workers) (lists sweeps : List (List ℕ))
    (events : ℕ) →
    IsTidy setup s → IsFit setup workers →
    ((w : ℕ) → taken_slots workers w ≡ taken_slots s.workers w) →
    ((w : ℕ) → is_live s.workers w ≡ true → is_live workers w ≡ true) →
    length lists ≡ length s.holders → All (AreHolders workers) lists →
    length sweeps ≤ setup.limits.sweeps → events ≤ setup.limits.events →
    IsTidy setup (record s { workers = workers; holders = lists; sweeps = sweeps; events = events })
tidy_tables setup s workers lists sweeps events tidy fit taken live same held few_sweeps few_events =
    tidy_made setup (record s { workers = workers; holders = lists; sweeps = sweeps; events = events }) fit
    (record {
      holders = same ∙ tidy.holders;
      splits = tidy.splits;
      parts = tidy.parts;
      events = few_events;
      attempts = tidy.attempts;
      sweeps = few_sweeps;
      known = tidy.known;
    })
    held
    (λ w. taken w ∙ tidy.taken w)
    (All-weaker _ _ (λ (attempt : Attempt). live attempt.worker) (all_running s) tidy.live)
    (record {
      apart = tidy.apart;
      told = tidy.told;
      told_parts = tidy.told_parts;
      told_done =
          tidy.told_done;
    })

-- with other holders
pub tidy_held : (setup : Setup) (s : State) (lists : List (List ℕ)) → IsTidy setup s →
    length lists ≡ length s.holders →
    All (AreHolders s.workers) lists → s.events + 1 ≤ setup.limits.events →
    IsTidy setup (counted (record s { holders = lists }))
tidy_held setup s lists tidy same held room =
    tidy_tables setup s s.workers lists s.sweeps (s.events + 1) tidy (fit_of setup s tidy)
    (λ w. refl) (λ w live. live) same held tidy.sweeps room

-- with one event more
pub tidy_counted : (setup : Setup) (s : State) → IsTidy setup s → s.events + 1 ≤ setup.limits.events →
    IsTidy setup (counted s)
tidy_counted setup s tidy room = tidy_held setup s s.holders tidy refl tidy.held room

-- holders are holders still in a table in which no fewer live
pub held_kept : (old new : Workers) (lists : List (List ℕ)) →
    ((w : ℕ) → is_live old w ≡ true → is_live new w ≡ true) →
    All (AreHolders old) lists → All (AreHolders new) lists
held_kept old new lists live held =
    All-weaker (AreHolders old) (AreHolders new)
    (λ holders h. record { few = h.few; once = h.once; live = All-weaker _ _ live holders h.live }) lists held
