-- The node that is entered is settled.
use Rattle.std.proofs.Common.{◌≡◌, ℕ, ◌+◌, ◌<◌, Bool, true, false, List, [], ◌∷◌, ◌++◌, length, map}
use Rattle.std.proofs.Common.{get_or, set, Contains, refl, sym, ap, ◌∙◌, subst, inl, inr, ◌⊎◌, arith}
use Rattle.std.proofs.Common.{get_or-set_same, get_or-set_other, length-set, length-append}
use Rattle.std.proofs.Math.Seq.{take-length}
use Rattle.std.proofs.lemmas.Bool.{cases_eq, false≢true}
use Rattle.std.proofs.lemmas.List.Elements.{Contains-append_left, Contains-push, Contains-push_cases}
use Rattle.std.proofs.lemmas.List.Elements.{Contains-append_right, Contains-append_cases}
use Rattle.flow_network.specs.declared.arcs.ArcNo.{ArcNo}
use Rattle.flow_network.specs.declared.arcs.ArcNo.TheVariants.{Reverse}
use Rattle.flow_network.specs.Flows.{tail_of, leaving_of}
use Rattle.flow_network.proofs.Listed.{each_arc}
use Rattle.flow_network.proofs.Members.{Contains-nil, Contains-here, Contains-one}
use Rattle.std.proofs.lemmas.List.{length-map}
use Rattle.shortest_paths.specs.declared.arrival.Arrival.{Arrival}
use Rattle.shortest_paths.specs.Lists.{AreResidualArcs, source_at, inner_at, matched_at, sink_arcs_at, stack_arcs}
use Rattle.shortest_paths.specs.Searching.{is_settled, Problem, Tables, distance_at, arrival_at}
use Rattle.shortest_paths.specs.Searching.{settled_number, AreReached, AreWaiting, IsSearching}
use Rattle.shortest_paths.proofs.Arriving.{not_settled}
use Rattle.shortest_paths.proofs.Sums.{enter_at}

-- a node that was reached at the level is settled
module _ (settled : List Bool) (v : ℕ) (inside : v < length settled) (fresh : is_settled settled v ≡ false)
  where
    settled_new : is_settled (set settled v true) v ≡ true
    settled_new = get_or-set_same settled v true false inside

    settled_other : (w : ℕ) → (w ≡ v → ⊥) → is_settled (set settled v true) w ≡ is_settled settled w
    settled_other w n = get_or-set_other settled v w true false n

    settled_also : (w : ℕ) → is_settled settled w ≡ true → is_settled (set settled v true) w ≡ true
    settled_also w s = settled_other w (not_settled settled w v s fresh) ∙ s

    settled_was : (w : ℕ) → is_settled (set settled v true) w ≡ true → (w ≡ v) ⊎ (is_settled settled w ≡ true)
    settled_was w s = elim (cases_eq w v) [ inl e ↦ inl e | inr n ↦ inr (sym (settled_other w n) ∙ s) ]

    fresh_was : (w : ℕ) → is_settled (set settled v true) w ≡ false
        → (w ≡ v → ⊥) × (is_settled settled w ≡ false)
    fresh_was w s =
        let n : w ≡ v → ⊥ = λ e. false≢true (sym s ∙ ap (is_settled (set settled v true)) e ∙ settled_new) in
        (n, sym (settled_other w n) ∙ s)

    number_more : settled_number (set settled v true) ≡ settled_number settled + 1
    number_more = enter_at settled v (λ _. 1) (λ _. 1) inside fresh (λ w n. refl)

    pub settled_reached : (p : Problem) (nodes level : ℕ) (distances : List ℕ) (arrivals : List Arrival)
        → distance_at distances v ≡ level
        → AreReached p nodes level distances arrivals settled
        → AreReached p nodes level distances arrivals (set settled v true)
    settled_reached p nodes level distances arrivals at_level t =
        let more = number_more in
        let in_level = t.level_in in
        record {
          size = t.size;
          arrivals_size = t.arrivals_size;
          settled_size = length-set settled v true ∙ t.settled_size;
          level_in = t.level_in;
          within = t.within;
          begun = t.begun;
          sound = λ w near. elim (t.sound w near) [
            | inl e ↦ inl e
            | inr r ↦ inr (record {
              residual = r.residual;
              leaves = r.leaves;
              comes = r.comes;
              before_settled = settled_also (arrival_at arrivals w).before r.before_settled;
              distance = r.distance;
              more = r.more;
            })
          ];
          low = λ u s. elim (settled_was u s) [
            | inl e ↦ (let same = ap (distance_at distances) e in omega arith)
            | inr old ↦ t.low u old
          ];
          bounded = λ w near. (let old = t.bounded w near in (omega arith, old.1));
          sooner = λ u s. elim (settled_was u s) [
            | inl e ↦ (let same = ap (λ w. (arrival_at arrivals w).arcs) e in
                let old = (t.bounded v (omega arith)).0 in omega arith)
            | inr old ↦ (let less = t.sooner u old in omega arith)
          ];
        }

    pub settled_waiting : (level : ℕ) (distances : List ℕ) (queue : List (ℕ × ℕ))
        → AreWaiting level distances settled (v ∷ []) queue
        → AreWaiting level distances (set settled v true) [] queue
    settled_waiting level distances queue w = record {
      next = λ y c. absurd (Contains-nil y c);
      waiting = λ y s near. (let was = fresh_was y s in elim (w.waiting y was.1 near) [
        | inl c ↦ absurd (was.0 (sym (Contains-one v y c)))
        | inr q ↦ inr q
      ]);
      queued = w.queued;
    }

-- the node of entering is settled: a source looks over its own arcs, another goes on the stack and looks at
-- its arc to the sink first
module _ (p : Problem) (nodes level count : ℕ) (v : ℕ) (rest : List ArcNo) (t : Tables)
    (s : IsSearching p nodes level count (v ∷ []) rest t)
    (lists : AreResidualArcs p.arcs p.flows p.sink p.lists) (inside : v < nodes)
    (not_sink : v ≡ p.sink → ⊥) where
  fresh : is_settled t.settled v ≡ false
  fresh = (s.waiting.next v (Contains-here [] v)).0

  at_level : distance_at t.distances v ≡ level
  at_level = (s.waiting.next v (Contains-here [] v)).1

  in_marks : v < length t.settled
  in_marks = let size = s.reached.settled_size in omega arith

  not_stacked : (w : ℕ) → Contains t.stack w → w ≡ v → ⊥
  not_stacked w o = not_settled t.settled w v (s.covered.on_stack w o).0 fresh

  sink_still : is_settled (set t.settled v true) p.sink ≡ false
  sink_still = settled_other t.settled v in_marks fresh p.sink (λ e. not_sink (sym e)) ∙ s.sink_left

  pub opened : source_at p.lists v ≡ false
      → IsSearching p nodes level count [] (sink_arcs_at p.lists v ++ rest) (record t {
        settled = set t.settled v true;
        left = set t.left v (length (matched_at p.lists v) + length (inner_at p.lists v));
        stack = t.stack ++ v ∷ [];
      })
  opened no_source =
      let c = s.covered in
      let n : ℕ = length (matched_at p.lists v) + length (inner_at p.lists v) in
      let size = s.left_size in
      let now : get_or (set t.left v n) v 0 ≡ n = get_or-set_same t.left v n 0 (omega arith) in
      let other : (w : ℕ) → (w ≡ v → ⊥) → get_or (set t.left v n) w 0 ≡ get_or t.left w 0 = λ w d.
      get_or-set_other t.left v w n 0 d in
      let cursors = enter_at t.settled v (λ w. get_or t.left w 0) (λ w. get_or (set t.left v n) w 0)
      in_marks fresh (λ w d. sym (other w d)) in
      let leaving = enter_at t.settled v (λ w. length (leaving_of p.arcs w))
      (λ w. length (leaving_of p.arcs w)) in_marks fresh (λ w d. refl) in
      let few = lists.few v in
      let parts = length-append (sink_arcs_at p.lists v) (stack_arcs p.lists v) in
      let inner_parts = length-append (map Reverse (matched_at p.lists v)) (inner_at p.lists v) in
      let all = length-append (sink_arcs_at p.lists v) rest in
      let mapped = length-map (matched_at p.lists v) Reverse in
      let whole : n ≡ length (stack_arcs p.lists v) = omega arith in
      let old = s.looks in
      record {
        left_size = length-set t.left v n ∙ s.left_size;
        reached = settled_reached t.settled v in_marks fresh p nodes level t.distances t.arrivals at_level
            s.reached;
        listed = s.listed;
        waiting = settled_waiting t.settled v in_marks fresh level t.distances t.queue s.waiting;
        covered = record {
          on_stack = λ w o. elim (Contains-push_cases t.stack v w o) [
            | inl was ↦ (let q = c.on_stack w was in (settled_also t.settled v in_marks fresh w q.0, q.1))
            | inr e ↦ rw (← e) (settled_new t.settled v in_marks fresh, at_level)
          ];
          cursors = λ w o. elim (cases_eq w v) [
            | inl e ↦ rw (e, now) (omega arith)
            | inr d ↦ elim (Contains-push_cases t.stack v w o) [
              | inl was ↦ rw (other w d) (c.cursors w was)
              | inr e ↦ absurd (d (sym e))
            ]
          ];
          of_rest = λ a i. elim (Contains-append_cases (sink_arcs_at p.lists v) rest a i) [
            | inl sink_arc ↦ (let own = lists.own v a
                (Contains-append_left (sink_arcs_at p.lists v) (stack_arcs p.lists v) a sink_arc) in
                rw (own.1) (own.0, settled_new t.settled v in_marks fresh, at_level))
            | inr was ↦ (let q = c.of_rest a was in
                (q.0, settled_also t.settled v in_marks fresh (tail_of p.arcs a) q.1, q.2))
          ];
          covered = λ b r q. elim (cases_eq (tail_of p.arcs b) v) [
            | inl e ↦ elim (Contains-append_cases (sink_arcs_at p.lists v) (stack_arcs p.lists v) b
                (rw e at (lists.complete b r (rw e no_source)))) [
                  | inl sink_arc ↦ inr (inl (Contains-append_left (sink_arcs_at p.lists v) rest b sink_arc))
                  | inr held ↦ inr (inr (
                    rw e (Contains-push t.stack v),
                    rw (e, now, whole, take-length (stack_arcs p.lists v)) held,
                  ))
                ]
            | inr d ↦ elim (settled_was t.settled v in_marks fresh (tail_of p.arcs b) q) [
              | inl e ↦ absurd (d e)
              | inr was ↦ elim (c.covered b r was) [
                | inl done ↦ inl done
                | inr more ↦ elim more [
                  | inl held ↦ inr (inl (Contains-append_right (sink_arcs_at p.lists v) rest b held))
                  | inr cursor ↦ inr (inr (
                    Contains-append_left t.stack (v ∷ []) (tail_of p.arcs b) cursor.0,
                    rw (other (tail_of p.arcs b) d) cursor.1,
                  ))
                ]
              ]
            ]
          ];
        };
        looks = omega arith;
        sink_left = sink_still;
      }

  pub scanned : rest ≡ [] → IsSearching p nodes level count [] (leaving_of p.arcs v) (record t {
    settled = set t.settled v true;
    left = set t.left v 0;
  })
  scanned empty =
      let c = s.covered in
      let size = s.left_size in
      let now : get_or (set t.left v 0) v 0 ≡ 0 = get_or-set_same t.left v 0 0 (omega arith) in
      let other : (w : ℕ) → (w ≡ v → ⊥) → get_or (set t.left v 0) w 0 ≡ get_or t.left w 0 = λ w d.
      get_or-set_other t.left v w 0 0 d in
      let cursors = enter_at t.settled v (λ w. get_or t.left w 0) (λ w. get_or (set t.left v 0) w 0)
      in_marks fresh (λ w d. sym (other w d)) in
      let leaving = enter_at t.settled v (λ w. length (leaving_of p.arcs w))
      (λ w. length (leaving_of p.arcs w)) in_marks fresh (λ w d. refl) in
      let old = s.looks in
      let gone = ap (λ (bs : List ArcNo). length bs) empty in
      record {
        left_size = length-set t.left v 0 ∙ s.left_size;
        reached = settled_reached t.settled v in_marks fresh p nodes level t.distances t.arrivals at_level
            s.reached;
        listed = s.listed;
        waiting = settled_waiting t.settled v in_marks fresh level t.distances t.queue s.waiting;
        covered = record {
          on_stack = λ w o. (let q = c.on_stack w o in (settled_also t.settled v in_marks fresh w q.0, q.1));
          cursors = λ w o. rw (other w (not_stacked w o)) (c.cursors w o);
          of_rest = λ a i. (let own = (each_arc p.arcs v a).1 i in
              rw (own.1) (own.0, settled_new t.settled v in_marks fresh, at_level));
          covered = λ b r q. elim (cases_eq (tail_of p.arcs b) v) [
            | inl e ↦ inr (inl ((each_arc p.arcs v b).0 r.listed e))
            | inr d ↦ elim (settled_was t.settled v in_marks fresh (tail_of p.arcs b) q) [
              | inl e ↦ absurd (d e)
              | inr was ↦ elim (c.covered b r was) [
                | inl done ↦ inl done
                | inr more ↦ elim more [
                  | inl held ↦ absurd (Contains-nil b (subst (λ bs. Contains bs b) empty held))
                  | inr cursor ↦ inr (inr (
                    cursor.0,
                    rw (other (tail_of p.arcs b) d) cursor.1,
                  ))
                ]
              ]
            ]
          ];
        };
        looks = omega arith;
        sink_left = sink_still;
      }
