-- A sweep, and a return, keep a state tidy.
use Rattle.std.proofs.Common.{◌≡◌, ◌≢◌, ℕ, suc, ◌+◌, ◌<◌, ◌&&◌, List, [], ◌∷◌, ◌++◌, length, map, cond, Bool}
use Rattle.std.proofs.Common.{true, false, None, inl, inr, refl, sym, ap, ◌∙◌, arith, All}
use Rattle.std.specs.Prelude.{fold}
use Rattle.std.specs.List.{enumerate_from}
use Rattle.std.proofs.lemmas.Bool.{cases_eq, eq-eqb, ne_eqb, or_parts}
use Rattle.std.proofs.lemmas.Grind.{common_steps}
use Rattle.std.proofs.lemmas.List.{length-append, length-map}
use Rattle.std.proofs.lemmas.List.Elements.{All-nil, All-cons, All-append, All-weaker}
use Rattle.node_ids.specs.Sets.{is_in_row}
use Rattle.worker_table.specs.Workers.{Workers, is_live, swept, with_return}
use Rattle.block_map.specs.Holdings.{are_full, has_full_among, holders_of, with_holder_of_all}
use Rattle.block_map.specs.declared.HolderLimit.{HolderLimit}
use Rattle.master_state.specs.States.{Setup, State}
use Rattle.master_state.specs.Refusals.{Join, Sweep, IsKnown, refusal, reasons}
use Rattle.master_state.specs.Changes.{died, after}
use Rattle.master_state.specs.Tidy.{IsTidy, AreHolders}
use Rattle.master_state.proofs.Holding.{room_more}
use Rattle.master_state.proofs.Lists.{AllPairs-append}
use Rattle.master_state.proofs.Slots.{fit_swept, live_swept, taken_swept, fit_return, live_return}
use Rattle.master_state.proofs.Slots.{live_return_other, taken_return}
use Rattle.master_state.proofs.Reasons.{none_applies, room_left, sweep_left}
use Rattle.master_state.proofs.Tidying.{tidy_tables, tidy_counted, fit_of, held_kept}
use Rattle.master_state.proofs.Ending.{tidy_died}

-- deaths one after another
pub tidy_all_died : (setup : Setup) (s : State) (workers : List ℕ) → IsTidy setup s →
    IsTidy setup (fold died s workers)
tidy_all_died setup s [] tidy = tidy
tidy_all_died setup s (w ∷ workers) tidy = tidy_all_died setup (died s w) workers (tidy_died setup s w tidy)

pub events_all_died : (s : State) (workers : List ℕ) → (fold died s workers).events ≡ s.events
events_all_died s [] = refl
events_all_died s (w ∷ workers) = events_all_died (died s w) workers

-- the state in which all have heard, before those die that were silent too long
abbrev pub heard_state : State → List ℕ → State
heard_state s counts = record s {
  workers = swept s.workers counts;
  sweeps = s.sweeps ++ counts ∷ [];
}

pub tidy_sweep : (setup : Setup) (s : State) (counts : List ℕ) → IsTidy setup s →
    refusal setup s (Sweep counts) ≡ None →
    IsTidy setup (after s (Sweep counts))
tidy_sweep setup s counts tidy allowed =
    let table = swept s.workers counts in
    let room = sweep_left setup s (none_applies (reasons setup s (Sweep counts)) allowed).0 in
    let lives : (w : ℕ) → is_live s.workers w ≡ true →
    is_live table w ≡ true = λ w live. live_swept s.workers counts w ∙ live in
    search (
      arith,
      tidy_counted,
      tidy_all_died,
      tidy_tables,
      fit_swept,
      fit_of,
      taken_swept,
      held_kept,
      length-append,
      events_all_died,
    )

-- the holders of each split of the set with w after them, the first split having the number n
abbrev returned_from : ℕ → List ℕ → ℕ → List (List ℕ) → List (List ℕ)
returned_from n set w lists =
    map (λ place. cond (is_in_row set place.0) (place.1 ++ w ∷ []) place.1) (enumerate_from n lists)

length-returned : (n : ℕ) (set : List ℕ) (w : ℕ) (lists : List (List ℕ)) →
    length (returned_from n set w lists) ≡ length lists
length-returned n set w [] = refl
length-returned n set w (holders ∷ lists) = ap suc (length-returned (n + 1) set w lists)

-- a dead worker is no holder
off_dead : (workers : Workers) (w : ℕ) (holders : List ℕ) → is_live workers w ≡ false →
    All (λ h. is_live workers h ≡ true) holders → All (λ h. All (λ v. h ≢ v) (w ∷ [])) holders
off_dead workers w holders dead live = grind arith

held_more : (limit : HolderLimit) (workers : Workers) (w : ℕ) (holders : List ℕ) → is_live workers w ≡ false →
    w < length workers.each →
    are_full limit holders ≡ false → AreHolders workers holders →
    AreHolders (with_return workers w) (holders ++ w ∷ [])
held_more limit workers w holders dead inside few held =
    let room = room_more limit holders w few in
    grind (
      arith,
      common_steps,
      AllPairs-append,
      off_dead,
      All-append,
      All-weaker,
      live_return_other,
      All-cons,
      live_return,
      All-nil,
    )

held_same : (workers : Workers) (w : ℕ) (holders : List ℕ) → AreHolders workers holders →
    AreHolders (with_return workers w) holders
held_same workers w holders held = grind (arith, All-weaker, live_return_other)

held_one : (limit : HolderLimit) (workers : Workers) (w : ℕ) (holders : List ℕ) (inside_set : Bool) →
    is_live workers w ≡ false →
    w < length workers.each →
    (inside_set && are_full limit holders) ≡ false → AreHolders workers holders →
    AreHolders (with_return workers w) (cond inside_set (holders ++ w ∷ []) holders)
held_one limit workers w holders true dead inside few held =
    held_more limit workers w holders dead inside few held
held_one limit workers w holders false dead inside few held = held_same workers w holders held

-- a split of the set is not full, where none of them is
not_full : (limit : HolderLimit) (lists : List (List ℕ)) (set : List ℕ) →
    has_full_among limit lists set ≡ false →
    (s : ℕ) → (is_in_row set s && are_full limit (holders_of lists s)) ≡ false
not_full limit lists [] few s = refl
not_full limit lists (m ∷ set) few s =
    let parts = or_parts (are_full limit (holders_of lists m)) _ few in
    let rest = not_full limit lists set parts.1 s in
    elim (cases_eq m s) [
      | inl e ↦
          let free : are_full limit (holders_of lists s) ≡ false =
          ap (λ t. are_full limit (holders_of lists t)) (sym e) ∙ parts.0 in
          rw (eq-eqb m s e, free) refl
      | inr other ↦ rw (ne_eqb m s other) rest
    ]

held_returned : (limit : HolderLimit) (workers : Workers) (n : ℕ) (set : List ℕ) (w : ℕ)
    (lists : List (List ℕ)) →
    is_live workers w ≡ false →
    w < length workers.each →
    ((k s : ℕ) → s ≡ n + k → (is_in_row set s && are_full limit (holders_of lists k)) ≡ false) →
    All (AreHolders workers) lists → All (AreHolders (with_return workers w)) (returned_from n set w lists)
held_returned limit workers n set w [] dead inside few held = All-nil (AreHolders (with_return workers w))
held_returned limit workers n set w (holders ∷ lists) dead inside few held =
    All-cons (AreHolders (with_return workers w)) (cond (is_in_row set n) (holders ++ w ∷ []) holders)
    (returned_from (n + 1) set w lists)
    (held_one limit workers w holders (is_in_row set n) dead inside (few 0 n (omega arith))
    (held 0 holders (omega arith)))
    (held_returned limit workers (n + 1) set w lists dead inside (λ k s at. few (suc k) s (omega (arith, at)))
    (λ k d l. held (suc k) d (omega (arith, l))))

pub tidy_join : (setup : Setup) (s : State) (w : ℕ) (set : List ℕ) → IsTidy setup s →
    IsKnown setup (Join w set) →
    refusal setup s (Join w set) ≡ None → IsTidy setup (after s (Join w set))
tidy_join setup s w set tidy known allowed =
    let limit = setup.cluster.holder_limit in
    let none = none_applies (reasons setup s (Join w set)) allowed in
    let inside : w < length s.workers.each =
    omega (arith, length-map s.workers.each (λ worker. worker.slots), ap length tidy.slots, known.0) in
    let few_at : (k split : ℕ) → split ≡ k →
    (is_in_row set split && are_full limit (holders_of s.holders k)) ≡ false =
    λ k split at. ap (λ t. is_in_row set split && are_full limit (holders_of s.holders t)) (sym at)
    ∙ not_full limit s.holders set none.1.0 split in
    tidy_tables setup s (with_return s.workers w) (with_holder_of_all s.holders set w) s.sweeps (s.events + 1)
    tidy
    (fit_return setup s.workers w (fit_of setup s tidy)) (taken_return s.workers w)
    (live_return_other s.workers w)
    (length-returned 0 set w s.holders)
    (held_returned limit s.workers 0 set w s.holders none.0 inside
    (λ k split at. few_at k split (omega (arith, at))) tidy.held)
    tidy.sweeps (room_left setup s none.1.1.0)
