-- How many splits a wave or a plan ahead may start: no more than the cluster has.
use Rattle.std.proofs.Common.{◌≡◌, ℕ, ◌+◌, ◌-◌, ◌*◌, ◌<◌, ◌≤◌, suc, List, [], ◌∷◌, Option, Some, None}
use Rattle.std.proofs.Common.{length, refl, arith, All, cond}
use Rattle.std.specs.Prelude.{zip}
use Rattle.std.proofs.lemmas.List.{length-map}
use Rattle.std.proofs.lemmas.List.Elements.{All-head, All-tail}
use Rattle.std.proofs.lemmas.Option.{none-some}
use Rattle.std.proofs.lemmas.Slice.Zip.{length-zip}
use Rattle.wave_problem.specs.Wave.{Wave}
use Rattle.wave_problem.specs.Assignment.{IsBest, pairs_from, pairs_of, start_of}
use Rattle.wave_problem.proofs.Bound.{pending_known}
use Rattle.master_state.specs.States.{Setup, State}
use Rattle.master_state.specs.Steps.{AreHeads, problem_of, split_line, with_places}
use Rattle.master_state.specs.Jobs.{Job}
use Rattle.script_text.specs.declared.script.Command.{Command}
use Rattle.script_text.specs.declared.script.Command.TheVariants as command
use Rattle.job_play.specs.Reports.{MayStart}
use Rattle.job_play.specs.Rooms.{starts_many, starts_one}

-- rising pairs of splits below n are no more than n
rising_few : (n k : ℕ) (plan : List (Option ℕ)) → All (λ (pair : ℕ × ℕ). pair.0 < n) (pairs_from k plan) →
    length (pairs_from k plan) ≤ n - k
rising_few n k [] below = omega arith
rising_few n k (None ∷ plan) below = omega (arith, rising_few n (k + 1) plan below)
rising_few n k (Some w ∷ plan) below =
    let here : k < n = All-head (λ (pair : ℕ × ℕ). pair.0 < n) (k, w) (pairs_from (k + 1) plan) below in
    let more = rising_few n (k + 1) plan
    (All-tail (λ (pair : ℕ × ℕ). pair.0 < n) (k, w) (pairs_from (k + 1) plan) below) in
    omega (arith, here, more)

-- a part of a plan starts no more than the plan
part_few : (n : ℕ) (starts plan : List (Option ℕ)) →
    ((s w : ℕ) → start_of starts s ≡ Some w → start_of plan s ≡ Some w) →
    length (pairs_from n starts) ≤ length (pairs_from n plan)
part_few n [] plan part = omega arith
part_few n (None ∷ starts) [] part = part_few (n + 1) starts [] (λ s v is. part (suc s) v is)
part_few n (Some v ∷ starts) [] part = absurd (none-some v (part 0 v refl))
part_few n (None ∷ starts) (None ∷ plan) part = part_few (n + 1) starts plan (λ s v is. part (suc s) v is)
part_few n (None ∷ starts) (Some u ∷ plan) part =
    omega (arith, part_few (n + 1) starts plan (λ s v is. part (suc s) v is))
part_few n (Some v ∷ starts) (None ∷ plan) part = absurd (none-some v (part 0 v refl))
part_few n (Some v ∷ starts) (Some u ∷ plan) part =
    omega (arith, part_few (n + 1) starts plan (λ s v is. part (suc s) v is))

-- the problem of a state has no more splits than the cluster
splits_few : (setup : Setup) (s : State) →
    length (problem_of setup s).splits ≤ length setup.cluster.splits
splits_few setup s = omega (
  arith,
  length-map (zip (zip setup.cluster.splits s.splits) s.holders)
      (λ line. split_line line.0.0 line.0.1 line.1),
  length-zip (zip setup.cluster.splits s.splits) s.holders,
  length-zip setup.cluster.splits s.splits,
)

-- a best plan of a problem starts no more than its splits
best_within : (wave : Wave) (plan : List (Option ℕ)) → IsBest wave (pairs_of plan) →
    length (pairs_of plan) ≤ length wave.splits
best_within wave plan best =
    let rising = rising_few (length wave.splits) 0 plan
    (λ i d inside. pending_known wave _ (best.assignment.admissible i d inside).pending) in
    omega (arith, rising)

pub best_few : (setup : Setup) (s : State) (plan : List (Option ℕ)) →
    IsBest (problem_of setup s) (pairs_of plan) → length (pairs_of plan) ≤ length setup.cluster.splits
best_few setup s plan best = omega (arith, best_within (problem_of setup s) plan best, splits_few setup s)

pub heads_few : (setup : Setup) (s : State) (asked : List ℕ) (plan starts : List (Option ℕ)) →
    IsBest (with_places asked (problem_of setup s)) (pairs_of plan) →
    AreHeads (problem_of setup s).workers plan starts →
    length (pairs_of starts) ≤ length setup.cluster.splits
heads_few setup s asked plan starts best heads = omega (
  arith,
  part_few 0 starts plan heads.of_plan,
  best_within (with_places asked (problem_of setup s)) plan best,
  splits_few setup s,
)

-- the attempts that a command may start
abbrev pub allowed : ℕ → Command → ℕ
allowed splits c = splits * cond {A = ℕ} (starts_many c) 1 0 + cond {A = ℕ} (starts_one c) 1 0

pub may_start_few : (job : Job) (c : Command) (count : ℕ) → MayStart job c count →
    count ≤ allowed (length job.setup.cluster.splits) c
may_start_few job command.Wave count may =
    omega (arith, best_few job.setup job.state may.0 may.1, may.2)
may_start_few job (command.Ahead places) count may =
    omega (arith, heads_few job.setup job.state places.items may.0 may.1 may.2 may.3, may.4)
may_start_few job c count may = absurd may
