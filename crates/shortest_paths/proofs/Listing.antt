-- The nodes that a search reached, as a list.
use Rattle.std.proofs.Common.{◌≡◌, ℕ, zero, suc, ◌+◌, ◌-◌, ◌<◌, ◌≤◌, false, List, [], ◌∷◌, ◌++◌, length, get_or, set}
use Rattle.std.proofs.Common.{sym, refl, ap, ◌∙◌, inl, inr, arith, get_or-set_same, get_or-set_other, length-set}
use Rattle.std.proofs.lemmas.Bool.{cases_eq, false≢true}
use Rattle.std.proofs.lemmas.List.Elements.{Contains-append_left, Contains-push, Contains-push_cases}
use Rattle.shortest_paths.specs.declared.arrival.Arrival.{Arrival}
use Rattle.shortest_paths.specs.Searching.{Tables, distance_at, arrival_at, ListsReached, IsLeft, LeadsBack, trace_of}
use Rattle.shortest_paths.specs.Searching.{is_settled}
use Rattle.shortest_paths.specs.ToSink.{far}

-- a node that is listed already is reached on a shorter way
pub reached_again : (distances listed : List ℕ) (v x : ℕ) → distance_at distances v < far
    → ListsReached distances listed → ListsReached (set distances v x) listed
reached_again distances listed v x near t = record {
  inside = λ w o. (let old = t.inside w o in let size = length-set distances v x in omega arith);
  all = λ w l. elim (cases_eq w v) [
    | inl e ↦ rw e (t.all v near)
    | inr n ↦ t.all w (rw (get_or-set_other distances v w x far n) at l)
  ];
}

-- a node is reached for the first time
pub reached_first : (distances listed : List ℕ) (v x : ℕ) → v < length distances
    → ListsReached distances listed → ListsReached (set distances v x) (listed ++ v ∷ [])
reached_first distances listed v x inside t = record {
  inside = λ w o. (let size = length-set distances v x in elim (Contains-push_cases listed v w o) [
    | inl was ↦ (let old = t.inside w was in omega arith)
    | inr e ↦ omega arith
  ]);
  all = λ w l. elim (cases_eq w v) [
    | inl e ↦ rw e (Contains-push listed v)
    | inr n ↦ Contains-append_left listed (v ∷ []) w
        (t.all w (rw (get_or-set_other distances v w x far n) at l))
  ];
}

-- the last node of the list is forgotten
module _ (nodes : ℕ) (t : Tables) (left : IsLeft nodes t) (rest : List ℕ) (v : ℕ)
    (last : t.reached ≡ rest ++ v ∷ []) where
  pub last_inside : (v < length t.distances) × (v < length t.settled)
  last_inside =
      let inside = left.listed.inside v (rw last (Contains-push rest v)) in
      let size = left.size in
      let marks = left.settled_size in
      (inside, omega arith)

  pub forgets : IsLeft nodes (record t {
    distances = set t.distances v far;
    settled = set t.settled v false;
    reached = rest;
  })
  forgets =
      let inside = last_inside in
      let here : distance_at (set t.distances v far) v ≡ far = get_or-set_same t.distances v far far
      inside.0 in
      let unset : get_or (set t.settled v false) v false ≡ false =
      get_or-set_same t.settled v false false inside.1 in
      record {
        size = length-set t.distances v far ∙ left.size;
        arrivals_size = left.arrivals_size;
        settled_size = length-set t.settled v false ∙ left.settled_size;
        left_size = left.left_size;
        within = λ w. elim (cases_eq w v) [
          | inl e ↦ rw e (let at = here in omega arith)
          | inr n ↦ rw (get_or-set_other t.distances v w far far n) (left.within w)
        ];
        listed = record {
          inside = λ w o.
              (let old = left.listed.inside w (rw last (Contains-append_left rest (v ∷ []) w o)) in
              let same = length-set t.distances v far in omega arith);
          all = λ w near. elim (cases_eq w v) [
            | inl e ↦ absurd (let at = ap (distance_at (set t.distances v far)) e in omega arith)
            | inr n ↦ (let other = get_or-set_other t.distances v w far far n in
                elim (Contains-push_cases rest v w (rw last at (left.listed.all w (omega arith)))) [
                  | inl old ↦ old
                  | inr e ↦ absurd (n (sym e))
                ])
          ];
        };
        marked = λ w m. elim (cases_eq w v) [
          | inl e ↦ absurd (false≢true (sym unset ∙ ap (is_settled (set t.settled v false)) (sym e) ∙ m))
          | inr n ↦ (let other = get_or-set_other t.distances v w far far n in
              let old = left.marked w (sym (get_or-set_other t.settled v w false false n) ∙ m) in omega arith)
        ];
      }

-- one arc back
pub back_one : (arrivals : List Arrival) (v n : ℕ) → 0 < n → LeadsBack arrivals v n
    → (v < length arrivals) × LeadsBack arrivals (arrival_at arrivals v).before (n - 1)
    × (trace_of arrivals v n
    ≡ trace_of arrivals (arrival_at arrivals v).before (n - 1) ++ (arrival_at arrivals v).arc ∷ [])
back_one arrivals v zero l b = absurd (omega arith)
back_one arrivals v (suc n) l b = let e : suc n - 1 ≡ n = omega arith in rw e (b.0, b.1, refl)

-- the depth of a node is lowered as it is forgotten
pub lowers_one : (depths distances : List ℕ) (v total : ℕ) → v < length depths → v < length distances
    → total ≤ far
    → (w : ℕ) → get_or (set depths v (get_or depths v 0 + (total - distance_at distances v))) w 0
    + (total - distance_at (set distances v far) w) ≡ get_or depths w 0 + (total - distance_at distances w)
lowers_one depths distances v total inside inside_too most w =
    grind (arith, cases_eq, get_or-set_same, get_or-set_other)
