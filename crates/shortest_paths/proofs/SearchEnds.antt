-- How a search begins and ends, and the path that its arrivals lead back over.
use Rattle.std.proofs.Common.{◌≡◌, ℕ, zero, suc, ◌+◌, ◌<◌, ◌≤◌, Bool, true, List, [], ◌∷◌, ◌++◌, length}
use Rattle.std.proofs.Common.{get_or, set, Contains, refl, sym, ap, ◌∙◌, subst, inl, inr, ◌⊎◌, arith}
use Rattle.std.proofs.Common.{get_or-set_same, get_or-set_other, length-set}
use Rattle.std.proofs.lemmas.Bool.{cases_eq, cases_lt, cases_Bool, false≢true}
use Rattle.std.proofs.lemmas.List.{get_or_past}
use Rattle.std.specs.Prelude.{slice_index}
use Rattle.flow_network.specs.declared.arcs.FlowArc.{FlowArc}
use Rattle.flow_network.specs.declared.arcs.ArcNo.{ArcNo}
use Rattle.flow_network.specs.declared.arcs.ArcNo.TheVariants.{Forward, Reverse}
use Rattle.flow_network.specs.Flows.{arc_index, tail_of, head_of, IsResidual, IsPath, Lacks, IsDistinct}
use Rattle.flow_network.proofs.Paths.{IsPath-append}
use Rattle.flow_network.proofs.Members.{Contains-nil, Contains-here, Contains-one}
use Rattle.shortest_paths.specs.Matched.{GoesOver, GoesOnce}
use Rattle.shortest_paths.specs.declared.arrival.Arrival.{Arrival}
use Rattle.shortest_paths.specs.Searching.{is_settled, Problem, Tables, distance_at, no_arrival, arrival_at}
use Rattle.shortest_paths.specs.Searching.{rc, AreReached, ListsReached, IsSearching, IsAtRest, IsLeft}
use Rattle.shortest_paths.specs.Searching.{LeadsBack, trace_of, trace_to}
use Rattle.shortest_paths.specs.Lowering.{IsSearchStep, AreSteps}
use Rattle.shortest_paths.specs.ToSink.{far, AreTraced, IsSearched, IsTrace}
use Rattle.shortest_paths.proofs.Lowering.{steps_cost}
use Rattle.shortest_paths.proofs.Sums.{unmarked_sum}

-- the ends of a path's arcs were reached over at most n arcs
pub EndsWithin : List Arrival → Problem → ℕ → List ArcNo → Type 0
EndsWithin arrivals p n [] = Unit {0}
EndsWithin arrivals p n (a ∷ path) = ((arrival_at arrivals (head_of p.arcs a)).arcs ≤ n)
    × ((arrival_at arrivals (tail_of p.arcs a)).arcs ≤ n) × EndsWithin arrivals p n path

Lacks-push : (b a : ArcNo) (path : List ArcNo) → Lacks b path → (b ≡ a → ⊥) → Lacks b (path ++ a ∷ [])
Lacks-push b a [] m n = (n, tt)
Lacks-push b a (c ∷ path) m n = (m.0, Lacks-push b a path m.1 n)

GoesOver-push : (k : ℕ) (a : ArcNo) (path : List ArcNo) → GoesOver k (path ++ a ∷ [])
    → GoesOver k path ⊎ (arc_index a ≡ k)
GoesOver-push k a [] (inl e) = inr e
GoesOver-push k a [] (inr n) = absurd n
GoesOver-push k a (b ∷ path) (inl e) = inl (inl e)
GoesOver-push k a (b ∷ path) (inr o) = elim (GoesOver-push k a path o) [ inl m ↦ inl (inr m) | inr e ↦ inr e ]

EndsWithin-push : (arrivals : List Arrival) (p : Problem) (n m : ℕ) (path : List ArcNo) (a : ArcNo) → n ≤ m
    → EndsWithin arrivals p n path
    → (arrival_at arrivals (head_of p.arcs a)).arcs ≤ m → (arrival_at arrivals (tail_of p.arcs a)).arcs ≤ m
    → EndsWithin arrivals p m (path ++ a ∷ [])
unfolding EndsWithin
EndsWithin-push arrivals p n m [] a e w head tail = (head, tail, tt)
EndsWithin-push arrivals p n m (b ∷ path) a e w head tail =
    grind (arith, EndsWithin-push arrivals p n m path a e w.2 head tail)

distinct-push : (arrivals : List Arrival) (p : Problem) (n : ℕ) (path : List ArcNo) (a : ArcNo)
    → n < (arrival_at arrivals (head_of p.arcs a)).arcs
    → EndsWithin arrivals p n path → IsDistinct path → IsDistinct (path ++ a ∷ [])
unfolding EndsWithin
distinct-push arrivals p n [] a m w d = (tt, tt)
distinct-push arrivals p n (b ∷ path) a m w d =
    grind (arith, distinct-push arrivals p n path a m w.2 d.1, Lacks-push)

-- two residual arcs over one arc have its ends
one_of_ends : (arcs : List FlowArc) (a b : ArcNo) → arc_index a ≡ arc_index b
    → (head_of arcs a ≡ head_of arcs b) ⊎ (head_of arcs a ≡ tail_of arcs b)
one_of_ends arcs (Forward j) (Forward k) e = inl (ap (λ i. head_of arcs (Forward i)) e)
one_of_ends arcs (Forward j) (Reverse k) e = inr (ap (λ i. head_of arcs (Forward i)) e)
one_of_ends arcs (Reverse j) (Forward k) e = inr (ap (λ i. head_of arcs (Reverse i)) e)
one_of_ends arcs (Reverse j) (Reverse k) e = inl (ap (λ i. head_of arcs (Reverse i)) e)

once-push : (arrivals : List Arrival) (p : Problem) (n : ℕ) (path : List ArcNo) (a : ArcNo)
    → n < (arrival_at arrivals (head_of p.arcs a)).arcs
    → EndsWithin arrivals p n path → GoesOnce path → GoesOnce (path ++ a ∷ [])
unfolding EndsWithin
once-push arrivals p n [] a m w d = ((λ o. o), tt)
once-push arrivals p n (b ∷ path) a m w d =
    grind (arith, once-push arrivals p n path a m w.2 d.1, GoesOver-push, one_of_ends)

AreSteps-push : (p : Problem) (d : ℕ → ℕ) (path : List ArcNo) (a : ArcNo)
    → AreSteps p.arcs (slice_index p.depths) d path → IsSearchStep p.arcs (slice_index p.depths) d a
    → AreSteps p.arcs (slice_index p.depths) d (path ++ a ∷ [])
AreSteps-push p d [] a m n = (n, tt)
AreSteps-push p d (c ∷ path) a m n = (m.0, AreSteps-push p d path a m.1 n)

module _ (p : Problem) (nodes level : ℕ) (distances : List ℕ) (arrivals : List Arrival) (settled : List Bool)
    (t : AreReached p nodes level distances arrivals settled) where
  pub path_back : (n v : ℕ) → distance_at distances v < far → (arrival_at arrivals v).arcs ≡ n
      → IsPath p.arcs p.flows (trace_of arrivals v n) p.start v × AreSteps p.arcs (slice_index p.depths)
      (distance_at distances) (trace_of arrivals v n)
      × IsDistinct (trace_of arrivals v n) × EndsWithin arrivals p n (trace_of arrivals v n)
      × GoesOnce (trace_of arrivals v n)
  unfolding EndsWithin
  path_back zero v near e = elim (t.sound v near) [
    | inl same ↦ (sym same, tt, tt, tt, tt)
    | inr r ↦ absurd (let more = r.more in omega arith)
  ]
  path_back (suc n) v near e = elim (t.sound v near) [
    | inl same ↦ absurd (let zero_there = t.begun.1 in let at = ap (λ w. (arrival_at arrivals w).arcs) same in
        omega arith)
    | inr r ↦
        (let u : ℕ = (arrival_at arrivals v).before in
        let a : ArcNo = (arrival_at arrivals v).arc in
        let more = r.more in
        let low = t.low u r.before_settled in
        let top = t.level_in in
        let rest = path_back n u (omega arith) (omega arith) in
        let at_head : (arrival_at arrivals (head_of p.arcs a)).arcs
        ≡ suc n = ap (λ w. (arrival_at arrivals w).arcs) r.comes ∙ e in
        let at_tail : (arrival_at arrivals (tail_of p.arcs a)).arcs ≡ n =
        (let before = ap (λ w. (arrival_at arrivals w).arcs) r.leaves in omega arith) in
        let farther : IsSearchStep p.arcs (slice_index p.depths) (distance_at distances) a =
        ap (distance_at distances) r.comes ∙ r.distance ∙ ap (λ w. distance_at distances w + rc p a)
        (sym r.leaves) in (
          IsPath-append p.arcs p.flows (trace_of arrivals u n) (a ∷ []) p.start u v rest.0
              (r.residual, r.leaves, r.comes),
          AreSteps-push p (distance_at distances) (trace_of arrivals u n) a rest.1 farther,
          distinct-push arrivals p n (trace_of arrivals u n) a (omega arith) rest.3 rest.2,
          EndsWithin-push arrivals p n (suc n) (trace_of arrivals u n) a (omega arith) rest.3 (omega arith)
              (omega arith),
          once-push arrivals p n (trace_of arrivals u n) a (omega arith) rest.3 rest.4,
        ))
  ]

  pub traced : AreTraced p.arcs p.flows (slice_index p.depths) p.start (distance_at distances)
  traced v near =
      let b = path_back (arrival_at arrivals v).arcs v near refl in
      let cost = steps_cost p.arcs p.flows (slice_index p.depths) (distance_at distances)
      (trace_to arrivals v) p.start v b.0 b.1 in
      let zero_there = t.begun.0 in
      (trace_to arrivals v, b.0, omega arith)

  pub trace_is : distance_at distances p.sink < far
      → IsTrace p.arcs p.flows (slice_index p.depths) p.start p.sink (distance_at distances)
      (trace_to arrivals p.sink)
  trace_is near =
      let b = path_back (arrival_at arrivals p.sink).arcs p.sink near refl in
      record { leads = b.0; distinct = b.2; once = b.4; steps = b.1 }

-- the sink is reached at the level
pub ends_at_sink : (p : Problem) (nodes level count : ℕ) (rest : List ArcNo) (t : Tables)
    → IsSearching p nodes level count (p.sink ∷ []) rest t
    → IsSearched p.arcs p.flows (slice_index p.depths) p.start p.sink (distance_at t.distances)
    × (distance_at t.distances p.sink ≡ level) × (level < far)
ends_at_sink p nodes level count rest t s =
    let here = (s.waiting.next p.sink (Contains-here [] p.sink)).1 in
    let top = s.reached.level_in in
    let in_time : (u : ℕ) → distance_at t.distances u < level
    → is_settled t.settled u ≡ true = λ u near. elim (cases_Bool (is_settled t.settled u)) [
      | inl m ↦ m
      | inr f ↦ absurd (elim (s.waiting.waiting u f (omega arith)) [
        | inl n ↦ (let q = (s.waiting.next u n).1 in omega arith)
        | inr h ↦ (let q = (s.waiting.queued (distance_at t.distances u) u h).0 in omega arith)
      ])
    ] in (
      record {
        begun = s.reached.begun.0;
        traced = traced p nodes level t.distances t.arrivals t.settled s.reached;
        covered = λ a r near. elim (s.covered.covered a r (in_time (tail_of p.arcs a) (omega arith))) [
          | inl done ↦ inl done
          | inr more ↦ elim more [
            | inl held ↦ absurd (let q = (s.covered.of_rest a held).2 in omega arith)
            | inr cursor ↦ absurd (let q = (s.covered.on_stack (tail_of p.arcs a) cursor.0).1 in omega arith)
          ]
        ];
      },
      here,
      top,
    )

-- nothing is left: each node that was reached is settled, and each arc that leaves one is covered
module _ (p : Problem) (nodes level count : ℕ) (t : Tables) (s : IsSearching p nodes level count [] [] t)
    (empty : t.stack ≡ []) (none : t.queue ≡ []) where
  all_settled : (u : ℕ) → distance_at t.distances u < far → is_settled t.settled u ≡ true
  all_settled u near = elim (cases_Bool (is_settled t.settled u)) [
    | inl m ↦ m
    | inr f ↦ absurd (elim (s.waiting.waiting u f near) [
      | inl n ↦ Contains-nil u n
      | inr h ↦ Contains-nil (distance_at t.distances u, u)
          (subst (λ q. Contains q (distance_at t.distances u, u)) none h)
    ])
  ]

  pub all_covered : (a : ArcNo) → IsResidual p.arcs p.flows a
      → distance_at t.distances (tail_of p.arcs a) < far
      → distance_at t.distances (head_of p.arcs a) ≤ distance_at t.distances (tail_of p.arcs a) + rc p a
  all_covered a r near = elim (s.covered.covered a r (all_settled (tail_of p.arcs a) near)) [
    | inl done ↦ done
    | inr more ↦ elim more [
      | inl i ↦ absurd (Contains-nil a i)
      | inr cursor ↦ absurd (Contains-nil (tail_of p.arcs a) (rw empty at cursor.0))
    ]
  ]

  -- so the sink has no path
  pub ends_with_none : IsSearched p.arcs p.flows (slice_index p.depths) p.start p.sink
      (distance_at t.distances)
      × (far ≤ distance_at t.distances p.sink)
  ends_with_none = (
    record {
      begun = s.reached.begun.0;
      traced = traced p nodes level t.distances t.arrivals t.settled s.reached;
      covered = λ a r near. inl (all_covered a r (let most = s.reached.within p.sink in omega arith));
    },
    elim (cases_lt (distance_at t.distances p.sink) far) [
      | inr past ↦ past
      | inl l ↦ absurd (false≢true (sym s.sink_left ∙ all_settled p.sink l))
    ],
  )

pub rest_listed : (nodes : ℕ) (t : Tables) → IsAtRest nodes t → ListsReached t.distances t.reached
rest_listed nodes t rest = grind arith

-- only the start is reached
module _ (p : Problem) (nodes count : ℕ) (t : Tables) (rest : IsAtRest nodes t) (a : Arrival)
    (reached : List ℕ)
    (inside : p.start < nodes) (none : count ≡ 0) (first : a.arcs ≡ 0)
    (listed : ListsReached (set t.distances p.start 0) reached) where
  at_start : distance_at (set t.distances p.start 0) p.start ≡ 0
  at_start = let size = rest.size in get_or-set_same t.distances p.start 0 far (omega arith)

  else_far : (w : ℕ) → (w ≡ p.start → ⊥) → distance_at (set t.distances p.start 0) w ≡ far
  else_far w n = get_or-set_other t.distances p.start w 0 far n ∙ rest.unreached w

  is_start : (w : ℕ) → distance_at (set t.distances p.start 0) w < far → w ≡ p.start
  is_start w near = elim (cases_eq w p.start) [
    | inl e ↦ e
    | inr n ↦ absurd (let away = else_far w n in
        omega arith)
  ]

  no_arcs : (arrival_at (set t.arrivals p.start a) p.start).arcs ≡ 0
  no_arcs =
      let size = rest.arrivals_size in
      ap (λ (q : Arrival). q.arcs) (get_or-set_same t.arrivals p.start a no_arrival (omega arith)) ∙ first

  fresh : (u : ℕ) → is_settled t.settled u ≡ true → ⊥
  fresh u m = false≢true (sym (rest.unsettled u) ∙ m)

  pub begins : IsSearching p nodes 0 count (p.start ∷ []) [] (record t {
    distances = set t.distances p.start 0;
    arrivals = set t.arrivals p.start a;
    reached = reached;
  })
  begins = record {
    left_size = rest.left_size;
    listed = listed;
    reached = record {
      size = length-set t.distances p.start 0 ∙ rest.size;
      arrivals_size = length-set t.arrivals p.start a ∙ rest.arrivals_size;
      settled_size = rest.settled_size;
      level_in = omega arith;
      within = λ w. elim (cases_eq w p.start) [
        | inl e ↦ rw e (let here = at_start in omega arith)
        | inr n ↦ (let away = else_far w n in omega arith)
      ];
      begun = (at_start, no_arcs);
      sound = λ w near. inl (is_start w near);
      low = λ u m. absurd (fresh u m);
      bounded = λ w near. (let e = is_start w near in let here = at_start in let zero_arcs = no_arcs in
          rw e (omega arith, omega arith));
      sooner = λ u m. absurd (fresh u m);
    };
    waiting = record {
      next = λ w o. rw (← Contains-one p.start w o) (rest.unsettled p.start, at_start);
      waiting = λ w f near. inl (rw (is_start w near) (Contains-here [] p.start));
      queued = λ c w o. absurd (Contains-nil (c, w) (rw rest.none_queued at o));
    };
    covered = record {
      on_stack = λ w o. absurd (Contains-nil w (rw rest.none_stacked at o));
      cursors = λ w o. absurd (Contains-nil w (rw rest.none_stacked at o));
      of_rest = λ b i. absurd (Contains-nil b i);
      covered = λ b r m. absurd (fresh (tail_of p.arcs b) m);
    };
    looks = (let sum = unmarked_sum t.settled 0 (λ u. get_or t.left u 0)
        rest.unsettled in
        omega arith);
    sink_left = rest.unsettled p.sink;
  }

-- after a search the nodes that were reached are listed
pub is_left : (p : Problem) (nodes level count : ℕ) (entering : List ℕ) (rest : List ArcNo) (t : Tables)
    → IsSearching p nodes level count entering rest t → IsLeft nodes t
is_left p nodes level count entering rest t s = grind arith

pub leads_back : (p : Problem) (nodes level : ℕ) (t : Tables)
    → AreReached p nodes level t.distances t.arrivals t.settled
    → (n v : ℕ) → distance_at t.distances v < far → (arrival_at t.arrivals v).arcs ≡ n
    → LeadsBack t.arrivals v n
leads_back p nodes level t r zero v near e = tt
leads_back p nodes level t r (suc n) v near e =
    let size = r.size in
    let size_arrivals = r.arrivals_size in
    let inside : v < length t.arrivals = elim (cases_lt v (length t.distances)) [
      | inl l ↦ omega arith
      | inr past ↦ absurd (let away = get_or_past t.distances v far past in omega arith)
    ] in
    elim (r.sound v near) [
      | inl same ↦ absurd (let none = r.begun.1 in let at = ap (λ w. (arrival_at t.arrivals w).arcs) same in
          omega arith)
      | inr back ↦ (
        inside,
        leads_back p nodes level t r n (arrival_at t.arrivals v).before
            (let low = r.low (arrival_at t.arrivals v).before back.before_settled in let top = r.level_in in
            omega arith)
            (let more = back.more in omega arith),
      )
    ]
