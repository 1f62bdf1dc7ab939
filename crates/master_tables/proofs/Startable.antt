-- A split may start on a worker where the table of workers says so.
use Rattle.std.proofs.Common.{◌≡◌, ℕ, ◌<◌, ◌≤◌, ◌↔◌, List, [], ◌∷◌, length, map, true, false}
use Rattle.std.proofs.Common.{inl, inr, refl, sym, ap, ◌∙◌, arith, subst}
use Rattle.std.specs.Prelude.{IsTrue, nat_lt}
use Rattle.std.specs.List.{list_any, position_or_len}
use Rattle.std.proofs.lemmas.Bool.{and_parts, cases_Bool, cases_lt, false≢true, lt-ltb, ltb-true}
use Rattle.std.proofs.lemmas.List.{get_or_past}
use Rattle.std.proofs.lemmas.List.Folds.{list_any_at}
use Rattle.std.proofs.lemmas.List.Sums.{fails_before_first}
use Rattle.node_ids.specs.Sets.{HasPair}
use Rattle.wave_problem.specs.declared.lines.WorkerLine.{WorkerLine}
use Rattle.wave_problem.specs.Wave.{live_among, worker_in, IsAdmissible, IsUsable, Split, Wave}
use Rattle.wave_problem.specs.Wave as wave
use Rattle.worker_table.specs.Workers.{has_free_slot, is_barred, is_live, worker_at, Workers}
use Rattle.master_state.specs.declared.states.SplitState.{SplitState}
use Rattle.master_state.specs.Steps.{split_line, worker_line}
use Rattle.master_state.proofs.Lists.{at-map}
use Rattle.master_state.proofs.Slots.{nobody}
use Rattle.master_tables.specs.Lines.{is_open, Takes}

-- the wave has the table's workers and barred pairs
pub record IsOver (t : Workers) (seen : Wave) : Type 0 where
  pub workers : seen.workers ≡ map worker_line t.each
  pub barred : seen.barred ≡ t.barred.rows

line_at : (t : Workers) (w : ℕ) → worker_in (map worker_line t.each) w ≡ worker_line (worker_at t w)
line_at t w = at-map worker_line t.each w nobody

live_some : (t : Workers) (holders : List ℕ) → IsTrue (list_any (is_live t) holders)
    ↔ (0 < length (live_among (map worker_line t.each) holders))
live_some t [] = (λ some. absurd (false≢true some), λ some. absurd (omega (arith, some)))
live_some t (h ∷ holders) =
    let line : (worker_in (map worker_line t.each) h).live ≡ is_live t h =
    ap (λ (l : WorkerLine). l.live) (line_at t h) in
    elim (cases_Bool (is_live t h)) [
      | inl live ↦ rw (line, live) (λ _. omega arith, λ _. refl)
      | inr dead ↦ rw (line, dead) (live_some t holders)
    ]

-- a worker with a free slot is one of the table
free_known : (t : Workers) (w : ℕ) → IsTrue (has_free_slot (worker_at t w)) → w < length t.each
free_known t w free = elim (cases_lt w (length t.each)) [
  | inl known ↦ known
  | inr past ↦ absurd (false≢true (sym (ap has_free_slot (get_or_past t.each w nobody past)) ∙ free))
]

free_is : (t : Workers) (w : ℕ) → IsTrue (has_free_slot (worker_at t w))
    ↔ IsUsable (map worker_line t.each) w
free_is t w = rw (line_at t w) (
  λ free.
      let both = and_parts (worker_at t w).live (nat_lt (worker_at t w).taken (worker_at t w).slots) free in
      let less = ltb-true (worker_at t w).taken (worker_at t w).slots both.1 in
      (both.0, omega (arith, less)),
  λ usable.
      let less = usable.1 in
      rw (usable.0, lt-ltb (worker_at t w).taken (worker_at t w).slots (omega (arith, less))) refl,
)

-- a worker on which the wave may start a split has a free slot
pub free_where : (t : Workers) (seen : Wave) (split w : ℕ) → seen.workers ≡ map worker_line t.each →
    IsAdmissible seen split w → IsTrue (has_free_slot (worker_at t w))
free_where t seen split w workers may =
    (free_is t w).1 (subst (λ (ws : List WorkerLine). IsUsable ws w) workers (may.live, may.has_slot))

-- a pair is barred in the wave where it is in the table
barred_is : (t : Workers) (seen : Wave) (split w : ℕ) → IsOver t seen →
    HasPair seen.barred split w ↔ IsTrue (is_barred t split w)
barred_is t seen split w over = rw over.barred (λ h. h, λ h. h)

-- what the wave says of a split and a worker, the table says of them
pub admissible_is : (t : Workers) (seen : Wave) (split w : ℕ) (line : Split) (state : SplitState)
    (holders : List ℕ) → IsOver t seen → wave.split_at seen split ≡ split_line line state holders →
    IsAdmissible seen split w ↔ (IsTrue (is_open t state holders) × Takes t split w)
admissible_is t seen split w line state holders over here = (
  λ may.
      let free = free_where t seen split w over.workers may in
      let pending = ap (λ (s : Split). s.pending) (sym here) ∙ may.pending in
      let live = (live_some t holders).1 (rw (sym over.workers) (subst (λ (s : Split). 0 < length (live_among
      seen.workers s.holders)) here may.held)) in
      let not_barred : is_barred t split w ≡ false = elim (cases_Bool (is_barred t split w)) [
        | inl barred ↦
            absurd (may.not_barred ((barred_is t seen split w over).1 barred))
        | inr not ↦ not
      ] in
      (rw (pending, live) refl, (free, not_barred)),
  λ told.
      let open_parts = and_parts _ _ told.0 in
      let usable : IsUsable seen.workers w =
      subst (λ (ws : List WorkerLine). IsUsable ws w) (sym over.workers) ((free_is t w).0 told.1.0) in
      record {
        pending = ap (λ (s : Split). s.pending) here ∙ open_parts.0;
        held = subst (λ (s : Split). 0 < length (live_among seen.workers s.holders)) (sym here)
            (rw over.workers ((live_some t holders).0 open_parts.1));
        live = usable.0;
        has_slot = usable.1;
        not_barred = λ pair. false≢true (sym told.1.1 ∙ (barred_is t seen split w over).0 pair);
      },
)

-- no worker below the first with a free slot has one
pub below_first : (t : Workers) (first w : ℕ) → first ≡ position_or_len has_free_slot t.each →
    IsTrue (has_free_slot (worker_at t w)) → first ≤ w
below_first t first w is free = elim (cases_lt w first) [
  | inl below ↦ absurd (false≢true (sym (fails_before_first has_free_slot t.each w nobody
      (omega (arith, below, is))) ∙ free))
  | inr past ↦ past
]

-- and where none has, no split is taken
pub none_free : (t : Workers) (w : ℕ) → list_any has_free_slot t.each ≡ false →
    IsTrue (has_free_slot (worker_at t w)) → ⊥
none_free t w none free =
    false≢true (sym none ∙ list_any_at has_free_slot t.each w nobody (free_known t w free) free)
