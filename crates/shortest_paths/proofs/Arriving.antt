-- A node is reached on a shorter way.
use Rattle.std.proofs.Common.{◌≡◌, ℕ, ◌+◌, ◌<◌, ◌≤◌, Bool, true, false, List, [], ◌∷◌, set, IsPermutation, refl, sym}
use Rattle.std.proofs.Common.{ap, ◌∙◌, inl, inr, arith, get_or-set_same, get_or-set_other, length-set, subst}
use Rattle.std.proofs.lemmas.Bool.{cases_eq, false≢true}
use Rattle.std.proofs.lemmas.List.Elements.{Contains-append_right}
use Rattle.std.proofs.lemmas.List.Sorted.{Contains-permutation, IsPermutation-sym}
use Rattle.std.specs.Prelude.{slice_index}
use Rattle.flow_network.specs.declared.arcs.ArcNo.{ArcNo}
use Rattle.flow_network.specs.Flows.{AreArcs, NoNegative, tail_of, head_of, IsResidual}
use Rattle.flow_network.proofs.Members.{Contains-here, Contains-there, Contains-cons}
use Rattle.shortest_paths.specs.declared.arrival.Arrival.{Arrival}
use Rattle.shortest_paths.specs.Searching.{is_settled, Problem, Tables, distance_at, no_arrival, arrival_at}
use Rattle.shortest_paths.specs.Searching.{rc, IsArrival, AreReached, AreWaiting, AreCovered}
use Rattle.shortest_paths.specs.ToSink.{far}
use Rattle.shortest_paths.proofs.Costs.{residual_cost, reduced_bound}

pub not_settled : (settled : List Bool) (u v : ℕ) → is_settled settled u ≡ true → is_settled settled v ≡ false
    → u ≡ v → ⊥
not_settled settled u v s n e = false≢true (sym n ∙ ap (is_settled settled) (sym e) ∙ s)

-- a node is reached on a shorter way
module _ (p : Problem) (nodes level : ℕ) (distances : List ℕ) (arrivals : List Arrival) (settled : List Bool)
    (t : AreReached p nodes level distances arrivals settled)
    (a : ArcNo) (x : ℕ) (v : ℕ) (inside : v < nodes) (residual : IsResidual p.arcs p.flows a)
    (comes : head_of p.arcs a ≡ v)
    (from : is_settled settled (tail_of p.arcs a) ≡ true) (fresh : is_settled settled v ≡ false)
    (is : x ≡ distance_at distances (tail_of p.arcs a) + rc p a) (shorter : x < distance_at distances v) where
  abbrev pub arrival : Arrival
  arrival = record {
    arc = a;
    before = tail_of p.arcs a;
    arcs =
        (arrival_at arrivals (tail_of p.arcs a)).arcs + 1;
  }

  at_new : distance_at (set distances v x) v ≡ x
  at_new = get_or-set_same distances v x far (let s = t.size in omega arith)

  at_other : (w : ℕ) → (w ≡ v → ⊥) → distance_at (set distances v x) w ≡ distance_at distances w
  at_other w n = get_or-set_other distances v w x far n

  pub falls : (w : ℕ) → distance_at (set distances v x) w ≤ distance_at distances w
  falls w = elim (cases_eq w v) [
    | inl e ↦ rw e (let new = at_new in omega arith)
    | inr n ↦ (let same = at_other w n in omega arith)
  ]

  pub kept : (w : ℕ) → is_settled settled w ≡ true
      → distance_at (set distances v x) w ≡ distance_at distances w
  kept w s = at_other w (not_settled settled w v s fresh)

  pub set_to : distance_at (set distances v x) v ≡ x
  set_to = at_new

  arrival_new : arrival_at (set arrivals v arrival) v ≡ arrival
  arrival_new = get_or-set_same arrivals v arrival no_arrival (let s = t.arrivals_size in omega arith)

  arrival_other : (w : ℕ) → (w ≡ v → ⊥) → arrival_at (set arrivals v arrival) w ≡ arrival_at arrivals w
  arrival_other w n = get_or-set_other arrivals v w arrival no_arrival n

  still : (w : ℕ) (l : Arrival) → (w ≡ v → ⊥) → IsArrival p distances arrivals settled w l
      → IsArrival p (set distances v x) (set arrivals v arrival) settled w l
  still w l n r = record {
    residual = r.residual;
    leaves = r.leaves;
    comes = r.comes;
    before_settled = r.before_settled;
    distance = at_other w n ∙ r.distance ∙ ap (λ d. d + rc p l.arc) (sym (kept l.before r.before_settled));
    more = r.more ∙ ap (λ (q : Arrival). q.arcs + 1)
        (sym (arrival_other l.before (not_settled settled l.before v r.before_settled fresh)));
  }

  pub reached_by : AreArcs nodes p.arcs → NoNegative p.arcs p.flows (slice_index p.depths)
      → AreReached p nodes level (set distances v x) (set arrivals v arrival) settled
  reached_by are none =
      let away : tail_of p.arcs a ≡ v → ⊥ = not_settled settled (tail_of p.arcs a) v from fresh in
      let not_start : p.start ≡ v
      → ⊥ = λ e. absurd (let zero_there = t.begun.0 in let same = ap (distance_at distances) e in
      omega arith) in
      record {
        size = length-set distances v x ∙ t.size;
        arrivals_size = length-set arrivals v arrival ∙ t.arrivals_size;
        settled_size = t.settled_size;
        level_in = t.level_in;
        within = λ w. (let less = falls w in let old = t.within w in omega arith);
        begun = (
          at_other p.start not_start ∙ t.begun.0,
          ap (λ (q : Arrival). q.arcs)
              (arrival_other p.start not_start) ∙ t.begun.1,
        );
        sound = λ w near. elim (cases_eq w v) [
          | inl e ↦ inr (rw (e, arrival_new) (record {
            residual = residual;
            leaves = refl;
            comes = comes;
            before_settled = from;
            distance = at_new ∙ is ∙ ap (λ d. d + rc p a) (sym (at_other (tail_of p.arcs a) away));
            more = ap (λ (q : Arrival). q.arcs + 1) (sym (arrival_other (tail_of p.arcs a) away));
          }))
          | inr n ↦ (let same = at_other w n in elim (t.sound w (omega arith)) [
            | inl e ↦ inl e
            | inr r ↦ inr (rw (arrival_other w n) (still w (arrival_at arrivals w) n r))
          ])
        ];
        low = λ u s. (let same = kept u s in let old = t.low u s in omega arith);
        bounded = λ w near. elim (cases_eq w v) [
          | inl e ↦ (let some = t.sooner (tail_of p.arcs a) from in
              let level_at = t.low (tail_of p.arcs a) from in let in_level = t.level_in in
              let old = (t.bounded (tail_of p.arcs a) (omega arith)).1 in
              let least = residual_cost p.arcs p.flows (slice_index p.depths) a none residual in
              let most = reduced_bound p.arcs nodes (slice_index p.depths) a are residual.listed least in
              let there = ap (slice_index p.depths) comes in
              rw (e, arrival_new, at_new) (omega arith, omega arith))
          | inr n ↦ (let same = at_other w n in
              rw (at_other w n, arrival_other w n) (t.bounded w (omega arith)))
        ];
        sooner = λ u s. rw (arrival_other u (not_settled settled u v s fresh)) (t.sooner u s);
      }

  -- it waits in the queue, or is entered next
  pub waits_near : (entering : List ℕ) (queue : List (ℕ × ℕ)) → x ≡ level
      → AreWaiting level distances settled entering queue
      → AreWaiting level (set distances v x) settled (v ∷ entering) queue
  waits_near entering queue e w = record {
    next = λ y c. elim (cases_eq y v) [
      | inl s ↦ rw s (fresh, at_new ∙ e)
      | inr n ↦ elim (Contains-cons v entering y c) [
        | inl s ↦ absurd (n (sym s))
        | inr old ↦ (let q = w.next y old in (q.0, at_other y n ∙ q.1))
      ]
    ];
    waiting = λ y s near. elim (cases_eq y v) [
      | inl same ↦ rw same (inl (Contains-here entering v))
      | inr n ↦ (let same = at_other y n in elim (w.waiting y s (omega arith)) [
        | inl c ↦ inl (Contains-append_right (v ∷ []) entering y c)
        | inr c ↦ inr (rw (at_other y n) c)
      ])
    ];
    queued = λ c y q. (let old = w.queued c y q in let less = falls y in (old.0, omega arith, old.2));
  }

  pub waits_far : (entering : List ℕ) (queue queue' : List (ℕ × ℕ)) → level < x → x < far
      → IsPermutation ((x, v) ∷ queue) queue' → AreWaiting level distances settled entering queue
      → AreWaiting level (set distances v x) settled entering queue'
  waits_far entering queue queue' past in_far more w = record {
    next = λ y c. (let q = w.next y c in
        let n : y ≡ v → ⊥ = λ e. absurd (let same = ap (distance_at distances) e in let here = q.1 in
        omega arith) in
        (q.0, at_other y n ∙ q.1));
    waiting = λ y s near. elim (cases_eq y v) [
      | inl same ↦ inr (rw (same, at_new) (Contains-permutation ((x, v) ∷ queue) queue' (x, v) more
          (Contains-here queue (x, v))))
      | inr n ↦ (let same = at_other y n in elim (w.waiting y s (omega arith)) [
        | inl c ↦ inl c
        | inr c ↦ inr (rw (at_other y n)
            (Contains-permutation ((x, v) ∷ queue) queue' (distance_at distances y, y) more
            (Contains-append_right ((x, v) ∷ []) queue _ c)))
      ])
    ];
    queued = λ c y q. elim (Contains-cons (x, v) queue (c, y)
        (Contains-permutation queue' ((x, v) ∷ queue) (c, y) (IsPermutation-sym ((x, v) ∷ queue) queue' more)
        q)) [
          | inl e ↦ (let cost : x ≡ c = ap (λ (r : ℕ × ℕ). r.0) e in let node : v
              ≡ y = ap (λ (r : ℕ × ℕ). r.1) e in
              let there = ap (distance_at (set distances v x)) node in let new = at_new in
              (omega arith, omega arith, omega arith))
          | inr old ↦ (let o = w.queued c y old in let less = falls y in (o.0, omega arith, o.2))
        ];
  }

-- an arc of rest was looked at
pub covers : (p : Problem) (level : ℕ) (a : ArcNo) (rest : List ArcNo) (t : Tables) (distances' : List ℕ)
    (arrivals' : List Arrival) (queue' : List (ℕ × ℕ)) (reached' : List ℕ)
    → ((w : ℕ) → distance_at distances' w ≤ distance_at t.distances w)
    → ((w : ℕ) → is_settled t.settled w ≡ true → distance_at distances' w ≡ distance_at t.distances w)
    → (IsResidual p.arcs p.flows a
    → distance_at distances' (head_of p.arcs a) ≤ distance_at t.distances (tail_of p.arcs a) + rc p a)
    → AreCovered p level (a ∷ rest) t
    → AreCovered p level rest
    (record t { distances = distances'; arrivals = arrivals'; queue = queue'; reached = reached' })
covers p level a rest t distances' arrivals' queue' reached' falls kept now c = record {
  on_stack = λ u o. (let q = c.on_stack u o in (q.0, kept u q.0 ∙ q.1));
  cursors = c.cursors;
  of_rest = λ b i. (let q = c.of_rest b (Contains-there a rest b i) in
      (q.0, q.1, kept (tail_of p.arcs b) q.1 ∙ q.2));
  covered = λ b r m. (let same = kept (tail_of p.arcs b) m in elim (c.covered b r m) [
    | inl done ↦ inl (let low = falls (head_of p.arcs b) in omega arith)
    | inr more ↦ elim more [
      | inl i ↦ elim (Contains-cons a rest b i) [
        | inl e ↦ inl (let near = now (subst (IsResidual p.arcs p.flows) (sym e) r) in
            let at = kept (tail_of p.arcs a) (rw (← e) at m) in rw (← e) (omega arith))
        | inr held ↦ inr (inl held)
      ]
      | inr cursor ↦ inr (inr cursor)
    ]
  ]);
}
