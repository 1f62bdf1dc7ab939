-- The cursors of the nodes on the stack move, and a node leaves it.
use Rattle.std.proofs.Common.{◌≡◌, ℕ, ◌+◌, ◌-◌, ◌<◌, ◌≤◌, true, List, [], ◌∷◌, ◌++◌, length, map, take}
use Rattle.std.proofs.Common.{get_or, set, Contains, sym, ◌∙◌, subst, inl, inr, ◌⊎◌, arith}
use Rattle.std.proofs.Common.{get_or-set_same, get_or-set_other, length-set}
use Rattle.std.proofs.lemmas.Bool.{cases_eq}
use Rattle.std.proofs.lemmas.List.{take_more, get_or-map, get_or_append_left, get_or-append_right, length-map}
use Rattle.std.proofs.lemmas.List.Elements.{Contains-append_left, Contains-push_cases}
use Rattle.std.proofs.lemmas.List.Elements.{Contains-get_or, Contains-append_right}
use Rattle.flow_network.specs.declared.arcs.ArcNo.{ArcNo}
use Rattle.flow_network.specs.declared.arcs.ArcNo.TheVariants.{Forward, Reverse}
use Rattle.flow_network.specs.Flows.{tail_of, arc_index}
use Rattle.flow_network.proofs.Members.{Contains-nil, Contains-here, Contains-there, Contains-cons}
use Rattle.shortest_paths.specs.Lists.{ArcLists, AreResidualArcs, inner_at, matched_at, sink_arcs_at}
use Rattle.shortest_paths.specs.Lists.{first_arcs, stack_arcs}
use Rattle.shortest_paths.specs.Searching.{is_settled, Problem, Tables, distance_at, IsSearching}
use Rattle.shortest_paths.proofs.Sums.{less_at}

-- the arcs of a node by their places
pub arc_back : (g : ArcLists) (u k : ℕ) → k < length (matched_at g u)
    → Reverse (get_or (matched_at g u) k 0) ≡ get_or (stack_arcs g u) k (Forward 0)
arc_back g u k l =
    let size = length-map (matched_at g u) Reverse in
    sym (get_or_append_left (map Reverse (matched_at g u)) (inner_at g u) (Forward 0) k (omega arith)
    ∙ get_or-map Reverse (matched_at g u) k 0 (Forward 0) l)

pub arc_inner : (g : ArcLists) (u k : ℕ) → length (matched_at g u) ≤ k
    → get_or (inner_at g u) (k - length (matched_at g u)) (Forward 0)
    ≡ get_or (stack_arcs g u) k (Forward 0)
arc_inner g u k l = sym (get_or-append_right (map Reverse (matched_at g u)) (inner_at g u)
    (length (matched_at g u)) k (Forward 0) (length-map (matched_at g u) Reverse) l)

-- an arc before a cursor was the last one, or stands before the cursor that is one less
before_cursor : (g : ArcLists) (u k : ℕ) (b : ArcNo) → k < length (stack_arcs g u)
    → Contains (first_arcs g u (k + 1)) b
    → Contains (first_arcs g u k) b ⊎ (get_or (stack_arcs g u) k (Forward 0) ≡ b)
before_cursor g u k b l i =
    Contains-push_cases (take k (stack_arcs g u)) (get_or (stack_arcs g u) k (Forward 0)) b
    (subst (λ ys. Contains ys b) (take_more (stack_arcs g u) k (Forward 0) l) i)

-- a cursor moves: the arc that it passes is looked at next
module _ (p : Problem) (nodes level count : ℕ) (entering : List ℕ) (rest : List ArcNo) (t : Tables)
    (s : IsSearching p nodes level count entering rest t)
    (lists : AreResidualArcs p.arcs p.flows p.sink p.lists) (u : ℕ) (on : Contains t.stack u)
    (inside : u < nodes) (k : ℕ) (at : get_or t.left u 0 ≡ k + 1) where
  abbrev passed : ArcNo
  passed = get_or (stack_arcs p.lists u) k (Forward 0)

  pub passed_own : Contains (sink_arcs_at p.lists u ++ stack_arcs p.lists u) passed
  passed_own =
      let few = s.covered.cursors u on in
      Contains-append_right (sink_arcs_at p.lists u) (stack_arcs p.lists u) _
      (Contains-get_or (stack_arcs p.lists u) k (Forward 0) (omega arith))

  moved_rest : (b : ArcNo) → Contains (passed ∷ rest) b
      → (arc_index b < length p.arcs) × (is_settled t.settled (tail_of p.arcs b) ≡ true)
      × (distance_at t.distances (tail_of p.arcs b) ≡ level)
  moved_rest b i = elim (Contains-cons passed rest b i) [
    | inl q ↦ (let o = lists.own u passed passed_own in let here = s.covered.on_stack u on in
        rw (← q, o.1) (o.0, here.0, here.1))
    | inr old ↦ s.covered.of_rest b old
  ]

  pub moves : IsSearching p nodes level count entering (passed ∷ rest) (record t { left = set t.left u k })
  moves =
      let c = s.covered in
      let few = c.cursors u on in
      let size = s.left_size in
      let now : get_or (set t.left u k) u 0 ≡ k = get_or-set_same t.left u k 0 (omega arith) in
      let other : (w : ℕ) → (w ≡ u → ⊥) → get_or (set t.left u k) w 0 ≡ get_or t.left w 0 =
      λ w n. get_or-set_other t.left u w k 0 n in
      let less = less_at t.settled u (λ w. get_or t.left w 0) (λ w. get_or (set t.left u k) w 0)
      (c.on_stack u on).0 (omega arith) (λ w n. sym (other w n)) in
      let old = s.looks in
      record {
        left_size = length-set t.left u k ∙ s.left_size;
        reached = s.reached;
        listed = s.listed;
        waiting = s.waiting;
        covered = record {
          on_stack = c.on_stack;
          cursors = λ w o. elim (cases_eq w u) [
            | inl q ↦ rw (q, now) (omega arith)
            | inr n ↦ rw (other w n) (c.cursors w o)
          ];
          of_rest = moved_rest;
          covered = λ b r m. elim (c.covered b r m) [
            | inl done ↦ inl done
            | inr more ↦ elim more [
              | inl held ↦ inr (inl (Contains-there passed rest b held))
              | inr cursor ↦ elim (cases_eq (tail_of p.arcs b) u) [
                | inr n ↦ inr (inr (cursor.0, rw (other (tail_of p.arcs b) n) cursor.1))
                | inl q ↦ elim (before_cursor p.lists u k b (omega arith) (rw (q, at) at cursor.1)) [
                  | inl held ↦ inr (inr (rw q on, rw (q, now) held))
                  | inr same ↦ inr (inl (subst (Contains (passed ∷ rest)) same (Contains-here rest passed)))
                ]
              ]
            ]
          ];
        };
        looks = omega arith;
        sink_left = s.sink_left;
      }

-- a node whose arcs were all looked at leaves the stack
pub popped : (p : Problem) (nodes level count : ℕ) (entering : List ℕ) (rest : List ArcNo) (t : Tables)
    (stack : List ℕ) (u : ℕ) → t.stack ≡ stack ++ u ∷ []
    → get_or t.left u 0 ≡ 0 → IsSearching p nodes level count entering rest t
    → IsSearching p nodes level count entering rest (record t { stack = stack })
popped p nodes level count entering rest t stack u e none s =
    let c = s.covered in
    let was : (w : ℕ) → Contains stack w
    → Contains t.stack w = λ w o. rw e (Contains-append_left stack (u ∷ []) w o) in
    record {
      left_size = s.left_size;
      covered = record {
        on_stack = λ w o. c.on_stack w (was w o);
        cursors = λ w o. c.cursors w (was w o);
        of_rest = c.of_rest;
        covered = λ b r m. elim (c.covered b r m) [
          | inl done ↦ inl done
          | inr more ↦ elim more [
            | inl held ↦ inr (inl held)
            | inr cursor ↦ elim (Contains-push_cases stack u (tail_of p.arcs b) (rw e at cursor.0)) [
              | inl old ↦ inr (inr (old, cursor.1))
              | inr top ↦ absurd (let i : Contains (first_arcs p.lists u 0) b = (rw (← top, none) at cursor.1)
                  in Contains-nil b i)
            ]
          ]
        ];
      };
      reached = s.reached;
      listed = s.listed;
      waiting = s.waiting;
      looks = s.looks;
      sink_left = s.sink_left;
    }
