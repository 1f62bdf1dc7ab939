-- What entering and leaving make of the lists, and how they follow a path.
use Rattle.std.proofs.Common.{◌≡◌, ℕ, ◌+◌, ◌-◌, ◌<◌, Bool, true, false, List, [], ◌∷◌, ◌++◌}
use Rattle.std.proofs.Common.{length, get_or, set, length-set, refl, sym, ap, ◌∙◌, subst, inl, inr, ◌⊎◌}
use Rattle.std.proofs.Common.{arith, get_or-set_same, get_or-set_other, Contains}
use Rattle.std.specs.List.{IsDistinct, AllByRecursion, swap_remove}
use Rattle.std.specs.Cmp.{nat_eq_equiv}
use Rattle.std.specs.List.Sorted.{IsPermutation}
use Rattle.std.specs.Prelude.{nat_eq, ◌≢◌, ◌↔◌}
use Rattle.std.proofs.lemmas.Bool.{cases_eq, cases_lt, ne_eqb, eq-eqb, false≢true}
use Rattle.std.proofs.lemmas.List.{get_or_default, get_or_read, get_or_past}
use Rattle.std.proofs.lemmas.List.Elements.{Contains-append_left, Contains-append_right}
use Rattle.std.proofs.lemmas.List.Elements.{Contains-append_cases, Contains-push, Contains-push_cases}
use Rattle.std.proofs.lemmas.List.Sorted.{IsPermutation-sym, IsPermutation-to_front}
use Rattle.std.proofs.lemmas.List.Sorted.{IsPermutation-swap_remove, Contains-permutation}
use Rattle.std.proofs.lemmas.Map.Keys.{IsDistinct-IsPermutation, IsDistinct-cons, IsDistinct-tail, IsDistinct-head}
use Rattle.std.proofs.lemmas.Grind.{common_steps}
use Rattle.flow_network.specs.declared.arcs.FlowArc.{FlowArc}
use Rattle.flow_network.specs.declared.arcs.ArcNo.{ArcNo}
use Rattle.flow_network.specs.declared.arcs.ArcNo.TheVariants.{Forward, Reverse}
use Rattle.flow_network.specs.Flows.{arc_at, arc_index, shifted, pushed}
use Rattle.shortest_paths.specs.Lists.{ArcLists, source_at, matched_at}
use Rattle.shortest_paths.specs.Matched.{IsOfSource, AreMatched, IsFollowing, GoesOver, Leaves}

-- a number that is not in a list differs from each member
apart : (k : ℕ) (xs : List ℕ) → (Contains xs k → ⊥) → AllByRecursion (λ y. nat_eq k y ≡ false) xs
apart k [] n = tt
apart k (x ∷ xs) n = (
  ne_eqb k x (λ e. n (0, omega arith, sym e)),
  apart k xs (λ c. n (Contains-append_right (x ∷ []) xs k c)),
)

not_among : (k : ℕ) (xs : List ℕ) → AllByRecursion (λ y. nat_eq k y ≡ false) xs → Contains xs k → ⊥
not_among k xs all c = grind (arith, common_steps, false≢true, eq-eqb)

-- a number that is not in a list stands once in the list with it
pub distinct_more : (xs : List ℕ) (k : ℕ) → (Contains xs k → ⊥) → IsDistinct nat_eq xs
    → IsDistinct nat_eq (xs ++ k ∷ [])
distinct_more xs k n d = IsDistinct-IsPermutation nat_eq nat_eq_equiv.symm (k ∷ xs) (xs ++ k ∷ [])
    (IsPermutation-sym (xs ++ k ∷ []) (k ∷ xs) (IsPermutation-to_front xs k))
    (IsDistinct-cons nat_eq k xs (apart k xs n) d)

pub leaves_place : (xs : List ℕ) (i k : ℕ) → i < length xs → k ≡ get_or xs i k → IsDistinct nat_eq xs
    → Leaves xs k (swap_remove xs i k)
leaves_place xs i k l e d =
    let ys : List ℕ = swap_remove xs i k in
    let p : IsPermutation xs (k ∷ ys) = IsPermutation-swap_remove xs i k l e in
    let front = IsDistinct-IsPermutation nat_eq nat_eq_equiv.symm xs (k ∷ ys) p d in
    let gone = not_among k ys (IsDistinct-head nat_eq k ys front) in
    record {
      distinct = IsDistinct-tail nat_eq k ys front;
      members = λ j. (
        (λ c. (
          Contains-permutation (k ∷ ys) xs j (IsPermutation-sym xs (k ∷ ys) p)
              (Contains-append_right (k ∷ []) ys j c),
          (λ same. gone (subst (λ m. Contains ys m) same c)),
        )),
        (λ c. elim (Contains-append_cases (k ∷ []) ys j (Contains-permutation xs (k ∷ ys) j p c.0)) [
          | inl first ↦ absurd (c.1 (only k j first))
          | inr rest ↦ rest
        ]),
      );
    }
  where
    only : (k j : ℕ) → Contains (k ∷ []) j → j ≡ k
    only k j c = let at : c.0 ≡ 0 = (let l = c.1 in omega arith) in
        sym (sym (ap (λ i. get_or (k ∷ []) i j) at) ∙ c.2)

pub leaves_none : (xs : List ℕ) (k : ℕ) → (Contains xs k → ⊥) → IsDistinct nat_eq xs → Leaves xs k xs
leaves_none xs k n d = grind arith

pub leaves_at : (xs ys : List ℕ) (i k r v : ℕ) → i < length xs → v ≡ get_or xs i v → v ≡ k → r ≡ get_or xs i r
    → ys ≡ swap_remove xs i r → IsDistinct nat_eq xs → Leaves xs k ys
leaves_at xs ys i k r v l e q f s d =
    let same : r ≡ k = f ∙ get_or_default xs i r v l ∙ sym e ∙ q in
    rw s (subst (λ m. Leaves xs m (swap_remove xs i r)) same (leaves_place xs i r l f d))

pub leaves_nowhere : (xs : List ℕ) (k : ℕ) → ((j : ℕ) → j < length xs → get_or xs j 0 ≢ k)
    → IsDistinct nat_eq xs → Leaves xs k xs
leaves_nowhere xs k n d = leaves_none xs k
    (λ c. n c.0 c.1 (get_or_default xs c.0 0 k c.1 ∙ c.2)) d

other_shifted : (flows : List ℕ) (a : ArcNo) (k : ℕ) → (arc_index a ≡ k → ⊥)
    → get_or (shifted flows a) k 0 ≡ get_or flows k 0
other_shifted flows (Forward i) k n = get_or-set_other flows i k (get_or flows i 0 + 1) 0 (λ e. n (sym e))
other_shifted flows (Reverse i) k n = get_or-set_other flows i k (get_or flows i 0 - 1) 0 (λ e. n (sym e))

-- what a path does not go over keeps its flow
other_pushed : (path : List ArcNo) (flows : List ℕ) (k : ℕ) → (GoesOver k path → ⊥)
    → get_or (pushed path flows) k 0 ≡ get_or flows k 0
other_pushed [] flows k n = refl
other_pushed (a ∷ path) flows k n =
    other_pushed path (shifted flows a) k (λ o. n (inr o)) ∙ other_shifted flows a k (λ e. n (inl e))

module _ (arcs : List FlowArc) (last : List ℕ) (a : ArcNo) (rest : List ArcNo) (g : ArcLists)
    (t : IsFollowing arcs last (a ∷ rest) g) where
  -- what the arc carries in the end it carries once the unit is over it
  pub now_carries : get_or last (arc_index a) 0 ≡ get_or (shifted t.flows a) (arc_index a) 0
  now_carries = ap (λ (f : List ℕ). get_or f (arc_index a) 0) t.rest_is
      ∙ other_pushed rest (shifted t.flows a) (arc_index a) t.once.0

  pub following_on : (g' : ArcLists) → AreMatched arcs (shifted t.flows a) g'
      → IsFollowing arcs last rest g'
  following_on g' s = record { flows = shifted t.flows a; rest_is = t.rest_is; once = t.once.1; matched = s }

-- what an arc carries where a unit goes over it, and where one is taken back
module _ (flows : List ℕ) (k : ℕ) where
  carries_set : (f : ℕ)
      → (get_or (set flows k f) k 0 ≡ f) ⊎ ((get_or flows k 0 ≡ 0) × (get_or (set flows k f) k 0 ≡ 0))
  carries_set f = elim (cases_lt k (length flows)) [
    | inl inside ↦ inl (get_or-set_same flows k f 0 inside)
    | inr past ↦ inr (
      get_or_past flows k 0 past,
      get_or_past (set flows k f) k 0 (let size = length-set flows k f in omega arith),
    )
  ]

  pub first_unit : get_or (shifted flows (Forward k)) k 0 ≡ 1 → get_or flows k 0 ≡ 0
  first_unit e = elim (carries_set (get_or flows k 0 + 1)) [
    | inl q ↦ omega arith
    | inr z ↦ z.0
  ]

  pub further_unit : (get_or (shifted flows (Forward k)) k 0 ≡ 1 → ⊥)
      → (0 < get_or flows k 0) ↔ (0 < get_or (shifted flows (Forward k)) k 0)
  further_unit n = elim (carries_set (get_or flows k 0 + 1)) [
    | inl q ↦ (
      (λ s. omega arith),
      (λ s. elim (cases_eq (get_or flows k 0) 0) [
        | inl e ↦ absurd (n (omega arith))
        | inr m ↦ omega arith
      ]),
    )
    | inr z ↦ (let a = z.0 in let b = z.1 in ((λ s. omega arith), (λ s. omega arith)))
  ]

  pub unit_back : (get_or (shifted flows (Reverse k)) k 0 ≡ 0 → ⊥)
      → (0 < get_or flows k 0) ↔ (0 < get_or (shifted flows (Reverse k)) k 0)
  unit_back n = elim (carries_set (get_or flows k 0 - 1)) [
    | inl q ↦ (
      (λ s. elim (cases_eq (get_or (shifted flows (Reverse k)) k 0) 0) [
        | inl e ↦ absurd (n e)
        | inr m ↦ omega arith
      ]),
      (λ s. omega arith),
    )
    | inr z ↦ absurd (n z.1)
  ]

module _ (arcs : List FlowArc) (flows : List ℕ) (a : ArcNo) (g : ArcLists) (n : ℕ)
    (inside : n < length arcs) (number : arc_index a ≡ n) (t : AreMatched arcs flows g) where
  others : (k : ℕ) → (k ≡ n → ⊥) → get_or (shifted flows a) k 0 ≡ get_or flows k 0
  others k d = other_shifted flows a k (λ e. d (sym e ∙ number))

  -- the arc is another node's, or as many as before carry a unit
  pub stays : (source_at g (arc_at arcs n).from ≡ true
      → (0 < get_or flows n 0) ↔ (0 < get_or (shifted flows a) n 0)) → AreMatched arcs (shifted flows a) g
  stays same = record {
    distinct = t.distinct;
    just = λ v k c. (let o = t.just v k c in (
      o.0,
      elim (cases_eq k n) [
        | inl e ↦ (let some : 0 < get_or flows n 0 = subst (λ j. 0 < get_or flows j 0) e o.1 in
            let of : source_at g (arc_at arcs n).from ≡ true =
            subst (λ j. source_at g (arc_at arcs j).from ≡ true) e o.0.from_source in
            subst (λ j. 0 < get_or (shifted flows a) j 0) (sym e) ((same of).0 some))
        | inr d ↦ (let q = others k d in let some = o.1 in omega arith)
      ],
    ));
    each = λ v k s f. t.each v k s (elim (cases_eq k n) [
      | inl e ↦ (let some : 0 < get_or (shifted flows a) n 0 =
          subst (λ j. 0 < get_or (shifted flows a) j 0) e f in
          let of : source_at g (arc_at arcs n).from ≡ true =
          subst (λ j. source_at g (arc_at arcs j).from ≡ true) e s.from_source in
          subst (λ j. 0 < get_or flows j 0) (sym e) ((same of).1 some))
      | inr d ↦ (let q = others k d in omega arith)
    ]);
  }

  module _ (new : List ℕ) (inside_to : (arc_at arcs n).to < length g.matched) where
    abbrev after : ArcLists
    after = record g { matched = set g.matched (arc_at arcs n).to new }

    at_end : (v : ℕ) → v ≡ (arc_at arcs n).to → matched_at after v ≡ new
    at_end v e = ap (λ u. matched_at after u) e
        ∙ get_or-set_same g.matched (arc_at arcs n).to new [] inside_to

    elsewhere : (v : ℕ) → (v ≡ (arc_at arcs n).to → ⊥) → matched_at after v ≡ matched_at g v
    elsewhere v d = get_or-set_other g.matched (arc_at arcs n).to v new [] d

    distinct_after : IsDistinct nat_eq new → (v : ℕ) → IsDistinct nat_eq (matched_at after v)
    distinct_after d v = elim (cases_eq v (arc_at arcs n).to) [
      | inl e ↦ subst (λ xs. IsDistinct nat_eq xs) (sym (at_end v e)) d
      | inr o ↦ subst (λ xs. IsDistinct nat_eq xs) (sym (elsewhere v o)) (t.distinct v)
    ]

    -- a source's arc with its first unit is listed where it ends
    pub enters_list : source_at g (arc_at arcs n).from ≡ true → get_or flows n 0 ≡ 0
        → 0 < get_or (shifted flows a) n 0 → new ≡ matched_at g (arc_at arcs n).to ++ n ∷ []
        → AreMatched arcs (shifted flows a) after
    enters_list source none unit e = record {
      distinct = distinct_after (subst (λ xs. IsDistinct nat_eq xs) (sym e)
          (distinct_more (matched_at g (arc_at arcs n).to) n (λ c. out (arc_at arcs n).to n c refl)
          (t.distinct (arc_at arcs n).to)));
      just = λ v k c. elim (cases_eq v (arc_at arcs n).to) [
        | inr o ↦ was v k (subst (λ xs. Contains xs k) (elsewhere v o) c)
        | inl q ↦ elim (Contains-push_cases (matched_at g (arc_at arcs n).to) n k
            (subst (λ xs. Contains xs k) (at_end v q ∙ e) c)) [
              | inl old ↦ (let r = was (arc_at arcs n).to k old in
                  (subst (λ u. IsOfSource arcs g.is_source u k) (sym q) r.0, r.1))
              | inr same ↦ (
                subst (λ j. IsOfSource arcs g.is_source v j) same
                    (record { listed = inside; from_source = source; ends = sym q }),
                subst (λ j. 0 < get_or (shifted flows a) j 0) same unit,
              )
            ]
      ];
      each = λ v k s f. elim (cases_eq k n) [
        | inl q ↦ (let at : v ≡ (arc_at arcs n).to = sym s.ends ∙ ap (λ j. (arc_at arcs j).to) q in
            subst (λ xs. Contains xs k) (sym (at_end v at ∙ e))
            (subst (λ j. Contains (matched_at g (arc_at arcs n).to ++ n ∷ []) j) (sym q)
            (Contains-push (matched_at g (arc_at arcs n).to) n)))
        | inr d ↦ (let old = t.each v k s (let m = others k d in omega arith) in
            elim (cases_eq v (arc_at arcs n).to) [
              | inr o ↦ subst (λ xs. Contains xs k) (sym (elsewhere v o)) old
              | inl q ↦ subst (λ xs. Contains xs k) (sym (at_end v q ∙ e))
                  (Contains-append_left (matched_at g (arc_at arcs n).to) (n ∷ []) k
                  (subst (λ u. Contains (matched_at g u) k) q old))
            ])
      ];
    }
      where
        out : (v k : ℕ) → Contains (matched_at g v) k → k ≡ n → ⊥
        out v k c same = (let some = (t.just v k c).1 in
            let z = ap (λ j. get_or flows j 0) same in omega arith)

        was : (v k : ℕ) → Contains (matched_at g v) k
            → IsOfSource arcs g.is_source v k × (0 < get_or (shifted flows a) k 0)
        was v k c = (let r = t.just v k c in
            (r.0, let m = others k (out v k c) in let some = r.1 in omega arith))

    -- an arc without a unit is struck off
    pub leaves_list : get_or (shifted flows a) n 0 ≡ 0
        → (IsDistinct nat_eq (matched_at g (arc_at arcs n).to) →
        Leaves (matched_at g (arc_at arcs n).to) n new)
        → AreMatched arcs (shifted flows a) after
    leaves_list no_unit leaves =
        let m = leaves (t.distinct (arc_at arcs n).to) in
        record {
          distinct = distinct_after m.distinct;
          just = λ v k c. elim (cases_eq v (arc_at arcs n).to) [
            | inr o ↦ (let old = t.just v k (subst (λ xs. Contains xs k) (elsewhere v o) c) in
                (old.0, still k old.1 (λ same. o (sym old.0.ends ∙ ap (λ j. (arc_at arcs j).to) same))))
            | inl e ↦ (let was = (m.members k).0 (subst (λ xs. Contains xs k) (at_end v e) c) in
                let old = t.just (arc_at arcs n).to k was.0 in
                (subst (λ u. IsOfSource arcs g.is_source u k) (sym e) old.0, still k old.1 was.1))
          ];
          each = λ v k s f.
              (let other : k ≡ n → ⊥ = λ same. (let z = ap (λ j. get_or (shifted flows a) j 0) same in
              omega arith) in
              let old = t.each v k s (let q = others k other in omega arith) in
              elim (cases_eq v (arc_at arcs n).to) [
                | inr o ↦ subst (λ xs. Contains xs k) (sym (elsewhere v o)) old
                | inl e ↦ subst (λ xs. Contains xs k) (sym (at_end v e))
                    ((m.members k).1 (subst (λ u. Contains (matched_at g u) k) e old, other))
              ]);
        }
      where
        still : (k : ℕ) → 0 < get_or flows k 0 → (k ≡ n → ⊥) → 0 < get_or (shifted flows a) k 0
        still k s d = (let q = others k d in omega arith)

-- one arc of the path further
module _ (arcs : List FlowArc) (last : List ℕ) (rest : List ArcNo) (g : ArcLists) where
  pub passes_on : (a : ArcNo) → arc_index a < length arcs → IsFollowing arcs last (a ∷ rest) g
      → source_at g (arc_at arcs (arc_index a)).from ≡ false → IsFollowing arcs last rest g
  passes_on a inside t off = following_on arcs last a rest g t g
      (stays arcs t.flows a g (arc_index a) inside refl t.matched (λ on. absurd (false≢true (sym off ∙ on))))

  module _ (k : ℕ) (inside : k < length arcs) where
    pub further_on : IsFollowing arcs last (Forward k ∷ rest) g → (get_or last k 0 ≡ 1 → ⊥)
        → IsFollowing arcs last rest g
    further_on t more = following_on arcs last (Forward k) rest g t g
        (stays arcs t.flows (Forward k) g k inside refl t.matched
        (λ on. further_unit t.flows k (λ e. more (now_carries arcs last (Forward k) rest g t ∙ e))))

    pub back_on : IsFollowing arcs last (Reverse k ∷ rest) g → (get_or last k 0 ≡ 0 → ⊥)
        → IsFollowing arcs last rest g
    back_on t more = following_on arcs last (Reverse k) rest g t g
        (stays arcs t.flows (Reverse k) g k inside refl t.matched
        (λ on. unit_back t.flows k (λ e. more (now_carries arcs last (Reverse k) rest g t ∙ e))))

    module _ (new : List ℕ) (inside_to : (arc_at arcs k).to < length g.matched) where
      pub enters_on : IsFollowing arcs last (Forward k ∷ rest) g → get_or last k 0 ≡ 1
          → source_at g (arc_at arcs k).from ≡ true → new ≡ matched_at g (arc_at arcs k).to ++ k ∷ []
          → IsFollowing arcs last rest (record g { matched = set g.matched (arc_at arcs k).to new })
      enters_on t one source e =
          let now : get_or (shifted t.flows (Forward k)) k 0 ≡ 1 =
          sym (now_carries arcs last (Forward k) rest g t) ∙ one in
          following_on arcs last (Forward k) rest g t _
          (enters_list arcs t.flows (Forward k) g k inside refl t.matched new inside_to source
          (first_unit t.flows k now) (omega arith) e)

      pub leaves_on : IsFollowing arcs last (Reverse k ∷ rest) g → get_or last k 0 ≡ 0
          → (IsDistinct nat_eq (matched_at g (arc_at arcs k).to) →
          Leaves (matched_at g (arc_at arcs k).to) k new)
          → IsFollowing arcs last rest (record g { matched = set g.matched (arc_at arcs k).to new })
      leaves_on t none leaves =
          following_on arcs last (Reverse k) rest g t _
          (leaves_list arcs t.flows (Reverse k) g k inside refl t.matched new inside_to
          (sym (now_carries arcs last (Reverse k) rest g t) ∙ none) leaves)

-- what the code reads of the lists
pub source_read : (v g : ArcLists) → v ≡ g → (x y : FlowArc) → x ≡ y → x.from < length g.is_source
    → (b : Bool) → b ≡ get_or v.is_source x.from b → source_at g y.from ≡ b
source_read v g e x y f l b r = grind (arith, get_or_read)

pub matched_read : (v g : ArcLists) → v ≡ g → (x y : FlowArc) → x ≡ y → x.to < length g.matched
    → (r : List ℕ) → r ≡ get_or v.matched x.to r → r ≡ matched_at g y.to
matched_read v g e x y f l xs r = grind (arith, get_or_read)

pub after_read : (v g : ArcLists) → v ≡ g → (x y : FlowArc) → x ≡ y → (new : List ℕ)
    → record g { matched = set g.matched y.to new } ≡ record v { matched = set v.matched x.to new }
after_read v g e x y f new = grind arith
