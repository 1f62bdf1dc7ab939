-- The problem of a tidy state keeps to the limits, and has the sizes of the cluster.
use Rattle.std.proofs.Common.{◌≡◌, ℕ, suc, ◌≤◌, List, [], ◌∷◌, length, refl, sym, ap, ◌∙◌, arith}
use Rattle.std.proofs.Common.{All}
use Rattle.std.proofs.lemmas.List.{length-map}
use Rattle.std.proofs.lemmas.List.Elements.{All-nil, All-cons, All-map, All-weaker}
use Rattle.rack_tree.proofs.Distances.{within_reach}
use Rattle.wave_problem.specs.declared.TheConstants.{MAX_SLOTS}
use Rattle.wave_problem.specs.declared.lines.WorkerLine.{WorkerLine}
use Rattle.wave_problem.specs.Wave.{Split, IsSmall, AreSmall, IsHeldWell, AreHeldWell, IsWithinLimits}
use Rattle.worker_table.specs.declared.Worker.{Worker}
use Rattle.worker_table.specs.Workers.{IsWithin}
use Rattle.master_state.specs.declared.states.SplitState.{SplitState}
use Rattle.master_state.specs.States.{Setup, State, IsWhole}
use Rattle.master_state.specs.Steps.{worker_line, problem_of}
use Rattle.master_state.specs.Tidy.{IsTidy, AreHolders}
use Rattle.master_state.proofs.Slots.{live-inside}
use Rattle.master_state.proofs.Waves.{lines_of}

-- the lines are as many as the splits
pub length-lines : (splits : List Split) (states : List SplitState) (lists : List (List ℕ)) →
    length states ≡ length splits →
    length lists ≡ length splits → length (lines_of splits states lists) ≡ length splits
length-lines [] states lists same_states same_lists = refl
length-lines (split ∷ splits) [] lists same_states same_lists = absurd (omega (arith, same_states))
length-lines (split ∷ splits) (state ∷ states) [] same_states same_lists = absurd (omega (arith, same_lists))
length-lines (split ∷ splits) (state ∷ states) (holders ∷ lists) same_states same_lists =
    ap suc (length-lines splits states lists (omega (arith, same_states)) (omega (arith, same_lists)))

-- what each line has of its split and of its holders
lines_keep : (P : Split → Type 0) (Q : List ℕ → Type 0) (R : Split → Type 0) →
    ((split line : Split) → line.bytes ≡ split.bytes → P split → Q line.holders → R line) →
    (splits : List Split) (states : List SplitState) (lists : List (List ℕ)) → All P splits → All Q lists →
    All R (lines_of splits states lists)
lines_keep P Q R made [] states lists first second = All-nil R
lines_keep P Q R made (split ∷ splits) [] lists first second = All-nil R
lines_keep P Q R made (split ∷ splits) (state ∷ states) [] first second = All-nil R
lines_keep P Q R made (split ∷ splits) (state ∷ states) (holders ∷ lists) first second =
    All-cons R _ (lines_of splits states lists)
    (made split _ refl (first 0 split (omega arith)) (second 0 holders (omega arith)))
    (lines_keep P Q R made splits states lists
    (λ k d l. first (suc k) d (omega (arith, l))) (λ k d l. second (suc k) d (omega (arith, l))))

-- the table has a worker for each of the tree
pub length-each : (setup : Setup) (s : State) → IsWhole setup.cluster → IsTidy setup s →
    length setup.cluster.tree.rack_of ≡ length s.workers.each
length-each setup s whole tidy =
    whole.racks ∙ sym (ap length tidy.slots) ∙ length-map s.workers.each (λ (worker : Worker). worker.slots)

-- the problem has a line for each worker and each split of the cluster
pub length-workers : (setup : Setup) (s : State) → IsTidy setup s →
    length (problem_of setup s).workers ≡ length setup.cluster.slots
length-workers setup s tidy = grind (arith, length-map)

pub length-splits : (setup : Setup) (s : State) → IsTidy setup s →
    length (problem_of setup s).splits ≡ length setup.cluster.splits
length-splits setup s tidy = length-lines setup.cluster.splits s.splits s.holders tidy.splits tidy.holders

free_slots : (setup : Setup) (s : State) → IsTidy setup s →
    All (λ line. line.free ≤ MAX_SLOTS) (problem_of setup s).workers
free_slots setup s tidy =
    All-map (λ (line : WorkerLine). line.free ≤ MAX_SLOTS) worker_line s.workers.each
    (All-weaker (IsWithin s.workers.limit) (λ worker. (worker_line worker).free ≤ MAX_SLOTS)
    (λ worker within. omega (arith, within.slots)) s.workers.each tidy.within)

pub small_problem : (setup : Setup) (s : State) → IsWhole setup.cluster → IsTidy setup s →
    AreSmall (problem_of setup s).workers (problem_of setup s).splits
small_problem setup s whole tidy = record {
  few_splits = omega (arith, length-splits setup s tidy, whole.few_splits);
  slots = free_slots setup s tidy;
  each_small = lines_keep IsSmall (AreHolders s.workers) IsSmall
      (λ split line bytes small held. record {
        bytes = omega (arith, bytes, small.bytes);
        holders = held.few;
      })
      setup.cluster.splits s.splits s.holders whole.small tidy.held;
}

-- its holders are workers, each once
pub held_well : (setup : Setup) (s : State) → IsWhole setup.cluster → IsTidy setup s →
    AreHeldWell (length (problem_of setup s).workers) (problem_of setup s).splits
held_well setup s whole tidy =
    lines_keep IsSmall (AreHolders s.workers) (IsHeldWell (length (problem_of setup s).workers))
    (λ split line bytes small held. record {
      known = grind (arith, All-weaker, live-inside, length-map);
      once = held.once;
    })
    setup.cluster.splits s.splits s.holders whole.small tidy.held

pub within_limits : (setup : Setup) (s : State) → IsWhole setup.cluster → IsTidy setup s →
    IsWithinLimits (problem_of setup s)
within_limits setup s whole tidy =
    let small = small_problem setup s whole tidy in
    record {
      near = within_reach setup.cluster.tree whole.tree.centres_known;
      few_splits = small.few_splits;
      few_workers = omega (arith, length-workers setup s tidy, whole.racks, whole.tree.workers);
      one_line_each = length-workers setup s tidy ∙ sym whole.racks;
      slots = small.slots;
      bytes = All-weaker IsSmall _ (λ split h. h.bytes) (problem_of setup s).splits small.each_small;
      holders = All-weaker IsSmall _ (λ split h. h.holders) (problem_of setup s).splits small.each_small;
      known = All-weaker (IsHeldWell (length (problem_of setup s).workers)) _ (λ split h. h.known)
          (problem_of setup s).splits (held_well setup s whole tidy);
      distinct = All-weaker (IsHeldWell (length (problem_of setup s).workers)) _ (λ split h. h.once)
          (problem_of setup s).splits (held_well setup s whole tidy);
    }
