-- The rows of a table are built arc by arc.
use Rattle.std.proofs.Common.{◌≡◌, ℕ, zero, suc, ◌+◌, ◌-◌, ◌<◌, ◌≤◌, cond, eqb, List, [], ◌∷◌, ◌++◌, length}
use Rattle.std.proofs.Common.{get_or, refl, sym, ap, ◌∙◌, subst, ◌⊎◌, inl, inr, arith}
use Rattle.std.proofs.lemmas.Bool.{cases_lt, cases_eq, eq-eqb, ne_eqb}
use Rattle.std.proofs.lemmas.Grind.{common_steps}
use Rattle.std.proofs.lemmas.List.{length-append}
use Rattle.flow_network.specs.declared.arcs.FlowArc.{FlowArc}
use Rattle.flow_network.specs.Flow.{Flow}
use Rattle.flow_network.specs.Flows.{arc_at}
use Rattle.flow_network.specs.Laws.{outroom}
use Rattle.wave_problem.specs.Sums.{sum_below}
use Rattle.wave_problem.proofs.Grouping.{sum_below-add, sum_below-one, sum_below-same, sum_below-zero}
use Rattle.network_prices.specs.Networks.{HasArc, IsArcFrom}
use Rattle.network_prices.specs.Building.{IsAdded}
use Rattle.network_prices.specs.Tables.{IsBefore, AreRisingArcs, AreRows, AreRowsTo, IsBuiltTo}
use Rattle.network_prices.proofs.Arcs.{arc_standing, at_old, at_new, stands_on, stands_new, each_push}
use Rattle.network_prices.proofs.Arcs.{add_empty, more_room}

-- the place u, x is no later than v, y
abbrev pub NoLater : ℕ → ℕ → ℕ → ℕ → Type 0
NoLater u x v y = (u < v) ⊎ ((u ≡ v) × (x ≤ y))

later : (a : FlowArc) (u x v y : ℕ) → NoLater u x v y → IsBefore a u x → IsBefore a v y
later a u x v y (inl m) (inl l) = inl (omega arith)
later a u x v y (inl m) (inr e) = let row = e.0 in inl (omega arith)
later a u x v y (inr m) (inl l) = let same = m.0 in inl (omega arith)
later a u x v y (inr m) (inr e) =
    let same = m.0 in let more = m.1 in let row = e.0 in let less = e.1 in inr (omega arith, omega arith)

before_past : (a b : FlowArc) (v y : ℕ) → IsBefore a b.from b.to → IsBefore b v y → IsBefore a v y
before_past a b v y first (inl l) = later a b.from b.to v y (inl l) first
before_past a b v y first (inr e) = let less = e.1 in later a b.from b.to v y (inr (e.0, omega arith)) first

rising_push : (arcs : List FlowArc) (a : FlowArc) → AreRisingArcs arcs
    → ((k : ℕ) → k < length arcs → IsBefore (arc_at arcs k) a.from a.to) → AreRisingArcs (arcs ++ a ∷ [])
rising_push arcs a rising before j k less l =
    let size = length-append arcs (a ∷ []) in
    subst (λ (b : FlowArc). IsBefore b (arc_at (arcs ++ a ∷ []) k).from (arc_at (arcs ++ a ∷ []) k).to)
    (sym (at_old arcs a j (omega arith)))
    (elim (cases_lt k (length arcs)) [
      | inl m ↦ grind (arith, at_old)
      | inr m ↦ grind (arith, common_steps, at_new)
    ])

module _ {D : Type 0} (wanted : D → Type 0) (arc : D → FlowArc) where
  abbrev IsOf : FlowArc → Type 0
  IsOf a = (d : D) × wanted d × (a ≡ arc d)

  nothing : AreRowsTo wanted arc 0 0 []
  nothing = record {
    sound = λ k l. absurd (omega arith);
    complete = λ d want before. absurd (elim before [
      | inl l ↦ omega arith
      | inr e ↦ (let l = e.1 in
          omega arith)
    ]);
    rising = λ j k less l. absurd (omega arith);
    before = λ k l. absurd (omega arith);
  }

  -- an arc of the table is the only one between two places
  take : (u x v y : ℕ) (d : D) (arcs : List FlowArc) → wanted d → NoLater u x (arc d).from (arc d).to
      → IsBefore (arc d) v y
      → ((e : D) → wanted e → IsBefore (arc e) v y → IsBefore (arc e) u x ⊎ (arc e ≡ arc d))
      → AreRowsTo wanted arc u x arcs → AreRowsTo wanted arc v y (arcs ++ arc d ∷ [])
  take u x v y d arcs want past here between rows = record {
    sound = each_push IsOf arcs (arc d) rows.sound (d, want, refl);
    complete = λ e wish before. elim (between e wish before) [
      | inl was ↦ stands_on arcs (arc d) (arc e) (rows.complete e wish was)
      | inr same ↦ subst (HasArc (arcs ++ arc d ∷ [])) (sym same) (stands_new arcs (arc d))
    ];
    rising = rising_push arcs (arc d) rows.rising first;
    before = each_push (λ a. IsBefore a v y) arcs (arc d)
        (λ k l. before_past (arc_at arcs k) (arc d) v y (first k l) here) here;
  }
    where
      first : (k : ℕ) → k < length arcs → IsBefore (arc_at arcs k) (arc d).from (arc d).to
      first k l = later (arc_at arcs k) u x (arc d).from (arc d).to past (rows.before k l)

  -- there is none between them
  pass : (u x v y : ℕ) (arcs : List FlowArc) → NoLater u x v y
      → ((e : D) → wanted e → IsBefore (arc e) v y → IsBefore (arc e) u x)
      → AreRowsTo wanted arc u x arcs → AreRowsTo wanted arc v y arcs
  pass u x v y arcs past between rows = record {
    sound = rows.sound;
    complete = λ e wish before. rows.complete e wish (between e wish before);
    rising = rows.rising;
    before = λ k l. later (arc_at arcs k) u x v y past (rows.before k l);
  }

  -- all of them are there
  pub all_rows : (u x : ℕ) (arcs : List FlowArc) → ((e : D) → wanted e → IsBefore (arc e) u x)
      → AreRowsTo wanted arc u x arcs → AreRows wanted arc arcs
  all_rows u x arcs all rows = record {
    sound = rows.sound;
    complete = λ e wish. rows.complete e wish (all e wish);
    rising = rows.rising;
  }

  module _ {L : Type 0} (sized : L → Type 0) where
    pub built_nothing : (network : Flow L) → sized network.layout → network.arcs ≡ [] → network.flows ≡ []
        → IsBuiltTo wanted arc sized 0 0 0 network
    built_nothing network fits arcs flows = record {
      frame = record {
        layout = fits;
        arc_limit = (let e = ap (λ (z : List FlowArc). length z) arcs in omega arith);
        empty = subst (λ (z : List ℕ). (k : ℕ) → get_or z k 0 ≡ 0) (sym flows) (λ k. refl);
      };
      rows = subst (AreRowsTo wanted arc 0 0) (sym arcs) nothing;
    }

    pub built_take : (u x v y limit next : ℕ) (d : D) (old new : Flow L) → limit < next → wanted d
        → NoLater u x (arc d).from (arc d).to → IsBefore (arc d) v y
        → ((e : D) → wanted e → IsBefore (arc e) v y → IsBefore (arc e) u x ⊎ (arc e ≡ arc d))
        → IsBuiltTo wanted arc sized u x limit old → IsAdded (arc d) old new
        → IsBuiltTo wanted arc sized v y next new
    built_take u x v y limit next d old new less want past here between built added = record {
      frame = add_empty sized limit next (arc d) old new less built.frame added;
      rows = subst (AreRowsTo wanted arc v y) (sym added.1)
          (take u x v y d old.arcs want past here between built.rows);
    }

    pub built_pass : (u x v y limit next : ℕ) (network : Flow L) → limit ≤ next → NoLater u x v y
        → ((e : D) → wanted e → IsBefore (arc e) v y → IsBefore (arc e) u x)
        → IsBuiltTo wanted arc sized u x limit network → IsBuiltTo wanted arc sized v y next network
    built_pass u x v y limit next network less past between built = record {
      frame = more_room sized limit next network less built.frame;
      rows = pass u x v y network.arcs past between built.rows;
    }

-- what holds of each arc of the table holds of each that the list has
pub each_arc : {D : Type 0} {wanted : D → Type 0} {arc : D → FlowArc} {arcs : List FlowArc}
    → AreRows wanted arc arcs → (P : FlowArc → Type 0) → ((d : D) → wanted d → P (arc d))
    → (k : ℕ) → k < length arcs → P (arc_at arcs k)
each_arc rows P each k l = let d = rows.sound k l in subst P (sym d.2) (each d.0 d.1)

-- each arc that the table has stands in the list, by its number
pub the_arc : {D : Type 0} {wanted : D → Type 0} {arc : D → FlowArc} {arcs : List FlowArc}
    → AreRows wanted arc arcs → (d : D) → wanted d
    → (k : ℕ) × IsArcFrom arcs k (arc d).from (arc d).to (arc d).capacity (arc d).cost
the_arc {D} {wanted} {arc} {arcs} rows d want = arc_standing arcs (arc d) (rows.complete d want)

-- where each arc leads to a later node, none leads to a start before it
pub rising_ends : (arcs : List FlowArc) → AreRisingArcs arcs
    → ((k : ℕ) → k < length arcs → (arc_at arcs k).from < (arc_at arcs k).to)
    → (j k : ℕ) → j ≤ k → k < length arcs → (arc_at arcs j).from < (arc_at arcs k).to
rising_ends arcs rising onward j k less l = grind arith

-- what the arcs from v can carry that lead to x
abbrev room_at : List FlowArc → ℕ → ℕ → ℕ
room_at [] v x = 0
room_at (a ∷ arcs) v x = cond (eqb a.from v) (cond (eqb a.to x) a.capacity 0) 0 + room_at arcs v x

-- none of the arcs leads from v to x
abbrev NoneAt : List FlowArc → ℕ → ℕ → Type 0
NoneAt arcs v x =
    (k : ℕ) → k < length arcs → (arc_at arcs k).from ≡ v → (arc_at arcs k).to ≡ x → ⊥

at_none : (arcs : List FlowArc) (v x : ℕ) → NoneAt arcs v x → room_at arcs v x ≡ 0
at_none [] v x none = refl
at_none (a ∷ arcs) v x none =
    let rest = at_none arcs v x (λ k l e f. none (suc k) (omega arith) e f) in
    elim (cases_eq a.from v) [
      | inl e ↦ rw (eq-eqb a.from v e, ne_eqb a.to x (λ f. none 0 (omega arith) e f)) (omega arith)
      | inr n ↦ rw (ne_eqb a.from v n) (omega arith)
    ]

-- an arc of just this room leads from v to x; or none does, and the room is nothing
pub record IsRoom (arcs : List FlowArc) (v x room : ℕ) : Type 0 where
  pub some : (k : ℕ) → k < length arcs → (arc_at arcs k).from ≡ v → (arc_at arcs k).to ≡ x →
      (arc_at arcs k).capacity ≡ room
  pub none : (0 < room) → (k : ℕ) × (k < length arcs) × ((arc_at arcs k).from ≡ v) × ((arc_at arcs k).to ≡ x)

-- of arcs that rise none leads from v to x, or one, whose room is all
abbrev RoomCases : List FlowArc → ℕ → ℕ → Type 0
RoomCases arcs v x = (NoneAt arcs v x × (room_at arcs v x ≡ 0))
    ⊎ ((k : ℕ) × (k < length arcs) × ((arc_at arcs k).from ≡ v) × ((arc_at arcs k).to ≡ x)
    × (room_at arcs v x ≡ (arc_at arcs k).capacity))

room_cases : (arcs : List FlowArc) (v x : ℕ) → AreRisingArcs arcs → RoomCases arcs v x
room_cases [] v x rising = inl (λ k l e f. absurd (omega arith), refl)
room_cases (a ∷ arcs) v x rising =
    let rest = room_cases arcs v x (λ j k less l. rising (suc j) (suc k) (omega arith) (omega arith)) in
    elim (cases_eq a.from v) [
      | inr n ↦ past_first (λ e f. n e) (rw (ne_eqb a.from v n) (omega arith)) rest
      | inl e ↦ elim (cases_eq a.to x) [
        | inr n ↦ past_first (λ e f. n f) (rw (eq-eqb a.from v e, ne_eqb a.to x n) (omega arith)) rest
        | inl f ↦
            (let none = at_none arcs v x (λ k l e' f'. elim (rising 0 (suc k) (omega arith) (omega arith))
            [ inl before ↦ omega arith | inr row ↦ (let before = row.1 in omega arith) ]) in
            inr (0, omega arith, e, f, rw (eq-eqb a.from v e, eq-eqb a.to x f) (omega arith)))
      ]
    ]
  where
    not_first : (a.from ≡ v → a.to ≡ x → ⊥) → NoneAt arcs v x → NoneAt (a ∷ arcs) v x
    not_first first none zero l e f = first e f
    not_first first none (suc k) l e f = none k (omega arith) e f

    past_first : (a.from ≡ v → a.to ≡ x → ⊥) → room_at (a ∷ arcs) v x ≡ room_at arcs v x
        → RoomCases arcs v x → RoomCases (a ∷ arcs) v x
    past_first off same (inl none) = inl (not_first off none.0, same ∙ none.1)
    past_first off same (inr found) =
        let l = found.1 in inr (suc found.0, omega arith, found.2, found.3, same ∙ found.4)

room_is : (arcs : List FlowArc) (v x room : ℕ) → AreRisingArcs arcs → IsRoom arcs v x room →
    room_at arcs v x ≡ room
room_is arcs v x room rising is = grind (arith, room_cases, cases_lt)

-- an arc to one of n nodes is counted at one of them
one_end : (to base n room : ℕ) → base ≤ to → to < base + n
    → sum_below n (λ i. cond (eqb to (base + i)) room 0) ≡ room
one_end to base n room low high =
    sum_below-same n (λ i. cond (eqb to (base + i)) room 0) (λ i. cond (eqb (to - base) i) room 0)
    (λ i l. elim (cases_eq to (base + i)) [
      | inl e ↦ rw (eq-eqb to (base + i) e, eq-eqb (to - base) i (omega arith)) refl
      | inr d ↦ rw (ne_eqb to (base + i) d, ne_eqb (to - base) i (λ e. d (omega arith))) refl
    ])
    ∙ sum_below-one n (to - base) (λ _. room) (omega arith)

-- the arcs that leave v lead to nodes from base on: what they can carry together, end by end
by_ends : (arcs : List FlowArc) (v base n : ℕ)
    → ((k : ℕ) → k < length arcs → (arc_at arcs k).from ≡ v → base ≤ (arc_at arcs k).to)
    → ((k : ℕ) → k < length arcs → (arc_at arcs k).from ≡ v → (arc_at arcs k).to < base + n)
    → outroom arcs v ≡ sum_below n (λ i. room_at arcs v (base + i))
by_ends [] v base n low high = sym (sum_below-zero n)
by_ends (a ∷ arcs) v base n low high =
    let rest = by_ends arcs v base n (λ k l e. low (suc k) (omega arith) e)
    (λ k l e. high (suc k) (omega arith) e) in
    elim (cases_eq a.from v) [
      | inr d ↦ grind arith
      | inl e ↦ rw (eq-eqb a.from v e) (
          let own = one_end a.to base n a.capacity (low 0 (omega arith) e) (high 0 (omega arith) e) in
          let both = sum_below-add n (λ i. cond (eqb a.to (base + i)) a.capacity 0)
          (λ i. room_at arcs v (base + i)) in
          omega arith)
    ]

pub outroom-rows : (arcs : List FlowArc) (v base n : ℕ) (f : ℕ → ℕ) → AreRisingArcs arcs
    → ((k : ℕ) → k < length arcs → (arc_at arcs k).from ≡ v → base ≤ (arc_at arcs k).to)
    → ((k : ℕ) → k < length arcs → (arc_at arcs k).from ≡ v → (arc_at arcs k).to < base + n)
    → ((i : ℕ) → i < n → IsRoom arcs v (base + i) (f i)) → outroom arcs v ≡ sum_below n f
outroom-rows arcs v base n f rising low high each = by_ends arcs v base n low high
    ∙ sum_below-same n (λ i. room_at arcs v (base + i)) f
    (λ i l. room_is arcs v (base + i) (f i) rising (each i l))

-- where all that leave v are one arc
pub outroom-one : (arcs : List FlowArc) (v x room : ℕ) → AreRisingArcs arcs
    → ((k : ℕ) → k < length arcs → (arc_at arcs k).from ≡ v
    → ((arc_at arcs k).to ≡ x) × ((arc_at arcs k).capacity ≡ room))
    → (k : ℕ) × (k < length arcs) × ((arc_at arcs k).from ≡ v) × ((arc_at arcs k).to ≡ x)
    → outroom arcs v ≡ room
outroom-one arcs v x room rising own there =
    let all : outroom arcs v ≡ 0 + room = outroom-rows arcs v x 1 (λ i. room) rising
    (λ k l from. (let to = (own k l from).0 in omega arith))
    (λ k l from. (let to = (own k l from).0 in omega arith))
    (λ i l. record {
      some = λ k m from to. (own k m from).1;
      none = λ some. (there.0, there.1, there.2, (let to = there.3 in omega arith));
    }) in
    omega arith
