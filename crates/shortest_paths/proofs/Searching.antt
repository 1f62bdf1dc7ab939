-- The other moves of a search: a node is taken from the queue, an arc is looked at; and each move by what
-- the code reads.
use Rattle.std.proofs.Common.{◌≡◌, ℕ, ◌+◌, ◌-◌, ◌*◌, ◌<◌, ◌≤◌, true, false, List, [], ◌∷◌}
use Rattle.std.proofs.Common.{◌++◌, length, get_or, set, take, All, Contains, IsPermutation, Option}
use Rattle.std.proofs.Common.{Some, None, refl, sym, ap, ◌∙◌, subst, inl, inr, ◌⊎◌, arith, length-append}
use Rattle.std.proofs.lemmas.Bool.{cases_lt, cases_Bool, false≢true}
use Rattle.std.proofs.lemmas.List.{get_or_past, take_more}
use Rattle.std.proofs.lemmas.List.Elements.{Contains-append_right, Contains-push, All-contains}
use Rattle.std.proofs.lemmas.List.Sorted.{Contains-permutation, IsPermutation-sym}
use Rattle.std.specs.Option.{option_to_list}
use Rattle.std.specs.Prelude.{slice_index}
use Rattle.std.proofs.lemmas.List.Elements.{Contains-append_left, Contains-push_cases}
use Rattle.flow_network.specs.declared.arcs.FlowArc.{FlowArc}
use Rattle.flow_network.specs.declared.arcs.ArcNo.{ArcNo}
use Rattle.flow_network.specs.declared.arcs.ArcNo.TheVariants.{Forward, Reverse}
use Rattle.flow_network.specs.Flows.{AreArcs, NoNegative, tail_of, head_of, arc_index, IsResidual}
use Rattle.flow_network.specs.Flow.{Counted}
use Rattle.flow_network.proofs.Listed.{few_looks}
use Rattle.flow_network.proofs.Members.{Contains-one, Contains-nil, Contains-here, Contains-there, Contains-cons}
use Rattle.shortest_paths.specs.declared.arrival.Arrival.{Arrival}
use Rattle.shortest_paths.specs.Lists.{ArcLists, AreResidualArcs, source_at, inner_at, matched_at}
use Rattle.shortest_paths.specs.Lists.{option_arcs, sink_arcs_at, stack_arcs}
use Rattle.shortest_paths.specs.Searching.{is_settled, Problem, Tables, distance_at, arrival_at, rc}
use Rattle.shortest_paths.specs.Searching.{AreReached, ListsReached, AreCovered, IsSearching}
use Rattle.shortest_paths.specs.declared.query.Query.{Query}
use Rattle.shortest_paths.specs.declared.search.Search.{Search}
use Rattle.shortest_paths.specs.Search.{problem, tables, IsCursor, IsNextArc, Searches}
use Rattle.shortest_paths.specs.ToSink.{far}
use Rattle.shortest_paths.proofs.Arriving.{not_settled, falls, kept, set_to, reached_by, waits_near, waits_far, covers}
use Rattle.shortest_paths.proofs.Cursors.{moves, passed_own, popped}
use Rattle.shortest_paths.proofs.Settled.{opened}

-- the nearest entry is taken from the queue, while nothing else is left
module _ {p : Problem} {nodes level count : ℕ} {t : Tables} (s : IsSearching p nodes level count [] [] t)
    {queue : List (ℕ × ℕ)} {c v : ℕ}
    (taken : IsPermutation t.queue ((c, v) ∷ queue)) where
  from_queue : (q : ℕ × ℕ) → Contains t.queue q → ((c, v) ≡ q) ⊎ Contains queue q
  from_queue q h = Contains-cons (c, v) queue q (Contains-permutation t.queue ((c, v) ∷ queue) q taken h)

  in_queue : (q : ℕ × ℕ) → Contains queue q → Contains t.queue q
  in_queue q h = Contains-permutation ((c, v) ∷ queue) t.queue q
      (IsPermutation-sym t.queue ((c, v) ∷ queue) taken) (Contains-append_right ((c, v) ∷ []) queue q h)

  pub entry : (level ≤ c) × (distance_at t.distances v ≤ c) × (c < far)
  entry = s.waiting.queued c v
      (Contains-permutation ((c, v) ∷ queue) t.queue (c, v) (IsPermutation-sym t.queue ((c, v) ∷ queue) taken)
      (Contains-here queue (c, v)))

  pub entry_inside : v < nodes
  entry_inside =
      let e = entry in let size = s.reached.size in
      elim (cases_lt v (length t.distances)) [
        | inl l ↦ omega arith
        | inr past ↦ absurd
            (let away = get_or_past t.distances v far past in omega arith)
      ]

  -- a settled node is passed over
  pub passed : is_settled t.settled v ≡ true
      → IsSearching p nodes level count [] [] (record t { queue = queue })
  passed done = record {
    left_size = s.left_size;
    reached = s.reached;
    listed = s.listed;
    waiting = record {
      next = s.waiting.next;
      waiting = λ y f near. elim (s.waiting.waiting y f near) [
        | inl n ↦ inl n
        | inr h ↦ elim (from_queue (distance_at t.distances y, y) h) [
          | inl e ↦ absurd (let same : v ≡ y = ap (λ (r : ℕ × ℕ). r.1) e in
              not_settled t.settled v y done f same)
          | inr old ↦ inr old
        ]
      ];
      queued = λ d y h. s.waiting.queued d y (in_queue (d, y) h);
    };
    covered = record {
      on_stack = s.covered.on_stack;
      cursors = s.covered.cursors;
      of_rest =
          s.covered.of_rest;
      covered = s.covered.covered;
    };
    looks = s.looks;
    sink_left = s.sink_left;
  }

  -- another is entered next, at its distance
  pub advanced : is_settled t.settled v ≡ false → All (λ (q : ℕ × ℕ). c ≤ q.0) t.queue → t.stack ≡ []
      → IsSearching p nodes c count (v ∷ []) [] (record t { queue = queue })
  advanced f least empty =
      let e = entry in
      let r = s.reached in
      let near : distance_at t.distances v < far = omega arith in
      let at_c : distance_at t.distances v ≡ c = elim (s.waiting.waiting v f near) [
        | inl n ↦ absurd (Contains-nil v n)
        | inr h ↦ (let low = All-contains (λ (q : ℕ × ℕ). c ≤ q.0) t.queue (distance_at t.distances v, v)
            least h in omega arith)
      ] in
      let none : (w : ℕ) → Contains t.stack w → ⊥ = λ w o. Contains-nil w (rw empty at o) in
      record {
        left_size = s.left_size;
        reached = record {
          size = r.size;
          arrivals_size = r.arrivals_size;
          settled_size = r.settled_size;
          level_in = e.2;
          within = r.within;
          begun = r.begun;
          sound = r.sound;
          low = λ u d. (let old = r.low u d in omega arith);
          bounded = r.bounded;
          sooner = r.sooner;
        };
        listed = s.listed;
        waiting = record {
          next = λ y h. rw (← Contains-one v y h) (f, at_c);
          waiting = λ y g l. elim (s.waiting.waiting y g l) [
            | inl n ↦ absurd (Contains-nil y n)
            | inr h ↦ elim (from_queue (distance_at t.distances y, y) h) [
              | inl q ↦ inl (subst (λ w. Contains (v ∷ []) w) (let same : v ≡ y = ap (λ (x : ℕ × ℕ). x.1) q in
                  same) (Contains-here [] v))
              | inr old ↦ inr old
            ]
          ];
          queued = λ d y h. (let old = s.waiting.queued d y (in_queue (d, y) h) in
              (All-contains (λ (q : ℕ × ℕ). c ≤ q.0) t.queue (d, y) least (in_queue (d, y) h), old.1, old.2));
        };
        covered = record {
          on_stack = λ w o. absurd (none w o);
          cursors = λ w o. absurd (none w o);
          of_rest = λ a i. absurd (Contains-nil a i);
          covered = λ b g d. elim (s.covered.covered b g d) [
            | inl done ↦ inl done
            | inr more ↦ elim more [
              | inl i ↦ absurd (Contains-nil b i)
              | inr cursor ↦ absurd (none (tail_of p.arcs b) cursor.0)
            ]
          ];
        };
        looks = s.looks;
        sink_left = s.sink_left;
      }

-- an arc of rest is looked at: it has no room, or brings nothing, or its end is reached
module _ {p : Problem} {nodes level count : ℕ} {entering : List ℕ} {a : ArcNo} {rest : List ArcNo}
    {t : Tables}
    (s : IsSearching p nodes level count entering (a ∷ rest) t) where
  pub no_way : (IsResidual p.arcs p.flows a → ⊥) → IsSearching p nodes level (count + 1) entering rest t
  no_way full = record {
    left_size = s.left_size;
    reached = s.reached;
    listed = s.listed;
    waiting = s.waiting;
    covered = covers p level a rest t t.distances t.arrivals t.queue t.reached (λ w. omega arith)
        (λ w m. refl) (λ r. absurd (full r)) s.covered;
    looks = (let old = s.looks in omega arith);
    sink_left = s.sink_left;
  }

  pub no_shorter : distance_at t.distances (head_of p.arcs a) ≤ level + rc p a
      → IsSearching p nodes level (count + 1) entering rest t
  no_shorter known =
      let here = (s.covered.of_rest a (Contains-here rest a)).2 in
      record {
        left_size = s.left_size;
        reached = s.reached;
        listed = s.listed;
        waiting = s.waiting;
        covered = covers p level a rest t t.distances t.arrivals t.queue t.reached (λ w. omega arith)
            (λ w m. refl) (λ r. omega arith) s.covered;
        looks = (let old = s.looks in omega arith);
        sink_left = s.sink_left;
      }

  -- a node that is reached on a shorter way is not settled
  pub still_fresh : level + rc p a < distance_at t.distances (head_of p.arcs a)
      → is_settled t.settled (head_of p.arcs a) ≡ false
  still_fresh shorter = elim (cases_Bool (is_settled t.settled (head_of p.arcs a))) [
    | inr f ↦ f
    | inl m ↦ absurd (let low = s.reached.low (head_of p.arcs a) m in omega arith)
  ]

  module _ (are : AreArcs nodes p.arcs) (none : NoNegative p.arcs p.flows (slice_index p.depths))
      (residual : IsResidual p.arcs p.flows a)
      (shorter : level + rc p a < distance_at t.distances (head_of p.arcs a))
      (inside : head_of p.arcs a < nodes) where
    abbrev pub next_arrival : Arrival
    next_arrival = record {
      arc = a;
      before = tail_of p.arcs a;
      arcs =
          (arrival_at t.arrivals (tail_of p.arcs a)).arcs + 1;
    }

    reached_now : AreReached p nodes level (set t.distances (head_of p.arcs a) (level + rc p a))
        (set t.arrivals (head_of p.arcs a) next_arrival) t.settled
    reached_now =
        let from = s.covered.of_rest a (Contains-here rest a) in
        let here = from.2 in
        reached_by p nodes level t.distances t.arrivals t.settled s.reached a (level + rc p a)
        (head_of p.arcs a) inside residual refl from.1 (still_fresh shorter) (omega arith) shorter are
        none

    covered_now : (queue : List (ℕ × ℕ)) (reached : List ℕ) → AreCovered p level rest (record t {
      distances = set t.distances (head_of p.arcs a) (level + rc p a);
      arrivals = set t.arrivals (head_of p.arcs a) next_arrival;
      queue = queue;
      reached = reached;
    })
    covered_now queue reached =
        let from = s.covered.of_rest a (Contains-here rest a) in
        let here = from.2 in
        let is : level + rc p a ≡ distance_at t.distances (tail_of p.arcs a) + rc p a = omega arith in
        covers p level a rest t (set t.distances (head_of p.arcs a) (level + rc p a))
        (set t.arrivals (head_of p.arcs a) next_arrival) queue reached
        (falls p nodes level t.distances t.arrivals t.settled s.reached a (level + rc p a)
        (head_of p.arcs a) inside residual refl from.1 (still_fresh shorter) is shorter)
        (kept p nodes level t.distances t.arrivals t.settled s.reached a (level + rc p a)
        (head_of p.arcs a) inside residual refl from.1 (still_fresh shorter) is shorter)
        (λ r. (let new = set_to p nodes level t.distances t.arrivals t.settled s.reached a (level + rc p a)
        (head_of p.arcs a) inside residual refl from.1 (still_fresh shorter) is shorter in omega arith))
        s.covered

    -- over an arc of reduced cost 0 it is entered next
    pub near_way : (reached : List ℕ)
        → ListsReached (set t.distances (head_of p.arcs a) (level + rc p a)) reached → rc p a ≡ 0
        → IsSearching p nodes level (count + 1) (head_of p.arcs a ∷ entering) rest (record t {
          distances = set t.distances (head_of p.arcs a) (level + rc p a);
          arrivals = set t.arrivals (head_of p.arcs a) next_arrival;
          reached = reached;
        })
    near_way reached listed tight =
        let from = s.covered.of_rest a (Contains-here rest a) in
        let here = from.2 in
        let c = covered_now t.queue reached in
        record {
          left_size = s.left_size;
          reached = reached_now;
          listed = listed;
          waiting = waits_near p nodes level t.distances t.arrivals t.settled s.reached a (level + rc p a)
              (head_of p.arcs a) inside residual refl from.1 (still_fresh shorter) (omega arith) shorter
              entering t.queue (omega arith) s.waiting;
          covered = record {
            on_stack = c.on_stack;
            cursors = c.cursors;
            of_rest = c.of_rest;
            covered =
                c.covered;
          };
          looks = (let old = s.looks in omega arith);
          sink_left = s.sink_left;
        }

    -- over another it waits in the queue
    pub far_way : (queue : List (ℕ × ℕ)) (reached : List ℕ)
        → ListsReached (set t.distances (head_of p.arcs a) (level + rc p a)) reached → 0 < rc p a
        → level + rc p a < far → IsPermutation ((level + rc p a, head_of p.arcs a) ∷ t.queue) queue
        → IsSearching p nodes level (count + 1) entering rest (record t {
          distances = set t.distances (head_of p.arcs a) (level + rc p a);
          arrivals = set t.arrivals (head_of p.arcs a) next_arrival;
          queue = queue;
          reached = reached;
        })
    far_way queue reached listed some in_far more =
        let from = s.covered.of_rest a (Contains-here rest a) in
        let here = from.2 in
        record {
          left_size = s.left_size;
          reached = reached_now;
          listed = listed;
          waiting = waits_far p nodes level t.distances t.arrivals t.settled s.reached a (level + rc p a)
              (head_of p.arcs a) inside residual refl from.1 (still_fresh shorter) (omega arith) shorter
              entering t.queue queue (omega arith) in_far more s.waiting;
          covered = covered_now queue reached;
          looks = (let old = s.looks in omega arith);
          sink_left = s.sink_left;
        }

-- looks are few at each moment
pub few_so_far : {p : Problem} {nodes level count : ℕ} {entering : List ℕ} {rest : List ArcNo} {t : Tables}
    → IsSearching p nodes level count entering rest t
    → count + length rest ≤ 2 * length p.arcs
few_so_far {p = p} {t = t} s = let old = s.looks in
    let few = few_looks p.arcs t.settled in omega arith

-- a node that is entered has a place in the tables
pub entered_inside : {p : Problem} {nodes level count : ℕ} {v : ℕ} {entering : List ℕ} {rest : List ArcNo}
    {t : Tables} → IsSearching p nodes level count (v ∷ entering) rest t → v < nodes
entered_inside {v = v} {entering = entering} {t = t} s =
    let at = (s.waiting.next v (Contains-here entering v)).1 in
    let low = s.reached.level_in in
    let size = s.reached.size in
    grind (arith, cases_lt, get_or_past)

-- a node that is no source was opened, and its arc to the sink comes first
pub opened_with : {L : Type 0} {node_count : L → ℕ} {m : Counted L} {q : Query} {level : ℕ} {v : ℕ}
    {rest : List ArcNo} {s s' : Search} {o : Option ℕ} → Searches node_count m q level (v ∷ []) rest s
    → (v ≡ q.sink → ⊥) → source_at q.lists.now v ≡ false
    → tables s' ≡ record (tables s) {
      settled = set s.settled.items v true;
      left = set s.left.items v (length (matched_at q.lists.now v) + length (inner_at q.lists.now v));
      stack = s.stack.items ++ v ∷ [];
    }
    → o ≡ get_or q.lists.now.sink_arcs v None → Searches node_count m q level [] (option_arcs o ++ rest) s'
opened_with {m = m} {q = q} {level = level} {v = v} {rest = rest} {s = s} state not_sink no_source e f =
    record {
      may = state.may;
      now = rw (e, f) (opened (problem m.network q) (length q.potentials.now) level m.count v rest (tables s)
          state.now state.may.lists (entered_inside state.now) not_sink no_source);
    }

pub sink_arc_own : (p : Problem) {v k : ℕ} → AreResidualArcs p.arcs p.flows p.sink p.lists
    → Some k ≡ get_or p.lists.sink_arcs v None
    → (tail_of p.arcs (Forward k) ≡ v) × (head_of p.arcs (Forward k) ≡ p.sink)
sink_arc_own p {v = v} {k = k} lists e =
    let i : Contains (sink_arcs_at p.lists v) (Forward k) =
    subst (λ o. Contains (option_arcs o) (Forward k)) e (Contains-here [] (Forward k)) in (
      (lists.own v _ (Contains-append_left (sink_arcs_at p.lists v) (stack_arcs p.lists v) _ i)).1,
      lists.sink_arcs_lead v (Forward k) i,
    )

-- a source's arcs end at no source
pub source_leads_on : {arcs : List FlowArc} {flows : List ℕ} {sink : ℕ} {g : ArcLists} {v : ℕ} (a : ArcNo)
    → AreResidualArcs arcs flows sink g → source_at g v ≡ true
    → arc_index a < length arcs → tail_of arcs a ≡ v → source_at g (head_of arcs a) ≡ false
source_leads_on (Forward k) lists source l e = lists.no_entry k l
source_leads_on {g = g} (Reverse k) lists source l e = absurd
    (false≢true (sym (lists.no_entry k l) ∙ ap (source_at g) e ∙ source))

-- a node on the stack has a place in the tables
pub stack_inside : {p : Problem} {nodes level count : ℕ} {entering : List ℕ} {rest : List ArcNo} {t : Tables}
    {u : ℕ} → IsSearching p nodes level count entering rest t
    → Contains t.stack u → u < nodes
stack_inside {t = t} {u = u} s on =
    let m = (s.covered.on_stack u on).0 in
    let size = s.reached.settled_size in
    grind (arith, cases_lt, false≢true, get_or_past)

-- a node on top of the stack has a place in the tables, and a cursor within its list
pub top_inside : {p : Problem} {nodes level count : ℕ} {t : Tables} (stack : List ℕ) {u : ℕ}
    → IsSearching p nodes level count [] [] t → t.stack ≡ stack ++ u ∷ []
    → (u < nodes) × IsCursor p.lists t u
top_inside {t = t} stack {u = u} s e =
    let on : Contains t.stack u = rw e (Contains-push stack u) in
    (stack_inside s on, s.covered.cursors u on)

-- its next arc is taken from its list
pub turns : {L : Type 0} {node_count : L → ℕ} {m : Counted L} {q : Query} {level : ℕ} {s : Search}
    (s' : Search) (stack : List ℕ) {u : ℕ} {a : ArcNo} → Searches node_count m q level [] [] s
    → s.stack.items ≡ stack ++ u ∷ [] → IsNextArc q.lists.now u (tables s) (Some a) (tables s')
    → Searches node_count m q level [] (a ∷ []) s' × (tail_of m.network.arcs a ≡ u)
turns {m = m} {q = q} {level = level} {s = s} s' stack {u = u} state e next =
    let p = problem m.network q in
    let nodes : ℕ = length q.potentials.now in
    let lists = state.may.lists in
    let on : Contains s.stack.items u = rw e (Contains-push stack u) in
    let here = top_inside _ state.now e in
    let moved = moves p nodes level m.count [] [] (tables s) state.now lists u on here.0 next.0 next.1 in
    let own = passed_own p nodes level m.count [] [] (tables s) state.now lists u on here.0 next.0 next.1 in (
      record { may = state.may; now = rw (next.3, next.2) moved },
      rw next.2 (lists.own u (get_or (stack_arcs p.lists u) next.0 (Forward 0)) own).1,
    )

last_same : (xs ys : List ℕ) (a b : ℕ) → xs ++ a ∷ [] ≡ ys ++ b ∷ [] → a ≡ b
last_same [] [] a b e = (let q : a ∷ [] ≡ b ∷ [] = e in cc)
last_same [] (y ∷ ys) a b e = absurd (let size = ap (λ (zs : List ℕ). length zs) e in
    let more = length-append ys (b ∷ []) in omega arith)
last_same (x ∷ xs) [] a b e = absurd (let size = ap (λ (zs : List ℕ). length zs) e in
    let more = length-append xs (a ∷ []) in omega arith)
last_same (x ∷ xs) (y ∷ ys) a b e = last_same xs ys a b (let q : x ∷ (xs ++ a ∷ [])
    ≡ y ∷ (ys ++ b ∷ []) = e in cc)

-- what a pop leaves
pub popped_by : {p : Problem} {nodes level count : ℕ} {t : Tables} (front stack : List ℕ) (u : ℕ)
    (o : Option ℕ) → t.stack ≡ front ++ u ∷ [] → t.stack ≡ stack ++ option_to_list o
    → get_or t.left u 0 ≡ 0 → IsSearching p nodes level count [] [] t
    → IsSearching p nodes level count [] [] (record t { stack = stack })
popped_by {p = p} {nodes = nodes} {level = level} {count = count} {t = t} front stack u None e f none s =
    subst (λ (xs : List ℕ). IsSearching p nodes level count [] [] (record t { stack = xs })) (f ∙ nil stack) s
  where
    nil : (xs : List ℕ) → xs ++ [] ≡ xs
    nil [] = refl
    nil (x ∷ xs) = ap (λ ys. x ∷ ys) (nil xs)
popped_by {t = t} front stack u (Some v) e f none s =
    let same : u ≡ v = last_same front stack u v (sym e ∙ f) in
    popped _ _ _ _ [] [] t stack v f (rw (← same) none) s

-- of the arcs that are still to be looked at, the last is taken
pub from_the_end : {p : Problem} {nodes level count : ℕ} {entering : List ℕ} (a : ArcNo) (rest : List ArcNo)
    {t : Tables} → IsSearching p nodes level count entering (rest ++ a ∷ []) t
    → IsSearching p nodes level count entering (a ∷ rest) t
from_the_end a rest s =
    let size = length-append rest (a ∷ []) in
    let old = s.looks in
    record {
      covered = record {
        on_stack = s.covered.on_stack;
        cursors = s.covered.cursors;
        of_rest = λ b i. s.covered.of_rest b (at_end b i);
        covered = λ b r m. elim (s.covered.covered b r m) [
          | inl done ↦ inl done
          | inr more ↦ elim more [ inl held ↦ inr (inl (in_front_of b held)) | inr cursor ↦ inr (inr cursor) ]
        ];
      };
      left_size = s.left_size;
      reached = s.reached;
      listed = s.listed;
      waiting = s.waiting;
      looks = omega arith;
      sink_left = s.sink_left;
    }
  where
    at_end : (b : ArcNo) → Contains (a ∷ rest) b → Contains (rest ++ a ∷ []) b
    at_end b i = elim (Contains-cons a rest b i) [
      | inl e ↦ subst (Contains (rest ++ a ∷ [])) e (Contains-push rest a)
      | inr old ↦ Contains-append_left rest (a ∷ []) b old
    ]

    in_front_of : (b : ArcNo) → Contains (rest ++ a ∷ []) b → Contains (a ∷ rest) b
    in_front_of b i = elim (Contains-push_cases rest a b i) [
      | inl before ↦ Contains-there a rest b before
      | inr e ↦ subst (Contains (a ∷ rest)) e (Contains-here rest a)
    ]

-- a list of arcs is looked over from its end
pub next_from_the_end : {p : Problem} {nodes level count : ℕ} {entering : List ℕ} (xs : List ArcNo) (i : ℕ)
    {t : Tables} → i < length xs
    → IsSearching p nodes level count entering (take (length xs - i) xs) t
    → IsSearching p nodes level count entering
    (get_or xs (length xs - 1 - i) (Forward 0) ∷ take (length xs - (i + 1)) xs) t
next_from_the_end {p = p} {nodes = nodes} {level = level} {count = count} {entering = entering} xs i {t = t} l
    s =
    let k : ℕ = length xs - (i + 1) in
    let size : length xs - i ≡ k + 1 = omega arith in
    let place : length xs - 1 - i ≡ k = omega arith in
    let parts : take (length xs - i) xs ≡ take k xs ++ get_or xs k (Forward 0) ∷ [] =
    ap (λ n. take n xs) size ∙ take_more xs k (Forward 0) (omega arith) in
    rw place (from_the_end (get_or xs k (Forward 0)) (take k xs)
    (subst (λ ys. IsSearching p nodes level count entering ys t) parts s))
