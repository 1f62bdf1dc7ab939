-- A master after the start of a part.
use Rattle.std.proofs.Common.{◌≡◌, ℕ, ◌<◌, List, [], ◌∷◌, ◌++◌, length, true, false, refl}
use Rattle.std.proofs.Common.{arith}
use Rattle.std.specs.List.{list_all}
use Rattle.std.proofs.lemmas.Bool.{or_parts, not-false}
use Rattle.std.proofs.lemmas.List.{length-map}
use Rattle.std.proofs.lemmas.List.FromFn.{length-range_with_len}
use Rattle.node_ids.specs.Updates.{updated}
use Rattle.worker_table.specs.Workers.{Workers, free_slots, with_slot_taken}
use Rattle.master_state.specs.declared.states.Start.{Start}
use Rattle.master_state.specs.declared.states.Work.TheVariants as works
use Rattle.master_state.specs.declared.states.PartState.{PartState}
use Rattle.master_state.specs.declared.states.PartState.TheVariants as part
use Rattle.master_state.specs.States.{State, next_attempt}
use Rattle.master_state.specs.Tests.{is_done, next_part, next_worker}
use Rattle.master_state.specs.Refusals.{is_not_reducible}
use Rattle.master_state.specs.Changes.{with_reduce_started}
use Rattle.master_state.specs.Jobs.{Job}
use Rattle.master_state.proofs.Lists.{any_inside, any_found}
use Rattle.master_state.proofs.Slots.{nobody, live-inside}
use Rattle.master_state.proofs.Starting.{free_parts}
use Rattle.master_core.specs.declared.master.Master.TheInside.{Inside}
use Rattle.master_core.specs.Inside.{state_of, job_of, IsMaster}

-- what a state has of which a part may start
pub record IsReducible (s : State) : Type 0 where
  pub done : list_all is_done s.splits ≡ true
  pub part : next_part s < length s.parts
  pub worker : next_worker s < length s.workers.each
  pub free : 0 < free_slots s.workers (next_worker s)

pub reducible_from : (s : State) → is_not_reducible s ≡ false → IsReducible s
reducible_from s ready =
    grind (arith, or_parts, not-false, free_parts, any_found, nobody, any_inside, live-inside)

-- the part and the worker of the next start, in a master's tables
pub record IsNextIn (m : Inside) (r w : ℕ) : Type 0 where
  pub ready : is_not_reducible (state_of m) ≡ false
  pub part_is : r ≡ next_part (state_of m)
  pub worker_is : w ≡ next_worker (state_of m)
  pub known : r < m.cluster.parts
  pub part : r < length m.parts.items
  pub worker : w < length m.workers.each
  pub free : 0 < free_slots m.workers w

pub next_in : {m : Inside} {j : Job} {r w : ℕ} → IsMaster m → job_of m ≡ j →
    is_not_reducible j.state ≡ false → r ≡ next_part j.state → w ≡ next_worker j.state → IsNextIn m r w
next_in {m = m} {r = r} {w = w} was is may_start at on = grind (arith, reducible_from)

-- the tables after the start make the state after the call
pub reduce_started_is : (s : State) {workers : Workers} {parts : List PartState} {starts : List Start}
    {r n w : ℕ} → n ≡ next_attempt s → r ≡ next_part s → w ≡ next_worker s →
    workers ≡ with_slot_taken s.workers w →
    parts ≡ updated (λ _. part.Running (record { number = n; worker = w })) s.parts r →
    starts ≡ s.starts ++ record { work = works.Part r; worker = w } ∷ [] →
    with_reduce_started s ≡ record s { workers = workers; parts = parts; starts = starts }
reduce_started_is s number at on taken ran told =
    rw (taken, ran, told, number, at, on) refl

-- there is an entry for each text
pub entry_of_each : {m : Inside} → IsMaster m → length m.splits.items ≡ length m.cluster.texts
entry_of_each {m = m} was = grind (arith, length-map, length-range_with_len)
