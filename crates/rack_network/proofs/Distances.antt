-- What a start costs, by the level at which its worker meets a live holder.
use Rattle.std.proofs.Common.{◌≡◌, ℕ, zero, suc, ◌*◌, ◌<◌, ◌≤◌, Bool, true, false, min, List, [], ◌∷◌, length}
use Rattle.std.proofs.Common.{get_or, map, filter, fold, Option, Some, refl, ap, ◌∙◌, inl, inr, ◌⊎◌}
use Rattle.std.proofs.Common.{arith, unwrap_or, Contains, subst}
use Rattle.std.specs.Prelude.{◌==◌}
use Rattle.std.specs.Option.{option_map}
use Rattle.std.proofs.lemmas.Bool.{cases_Bool, cases_eq, cases_lt, eq-eqb, ne_eqb}
use Rattle.std.proofs.lemmas.List.{get_or_default}
use Rattle.std.proofs.Math.Nat.{mul-le-mul_left}
use Rattle.std.proofs.lemmas.List.Elements.{All-contains, All-contains_itself, All-filter, filter_passes}
use Rattle.flow_network.proofs.Members.{Contains-nil, Contains-here, Contains-there, Contains-cons}
use Rattle.rack_tree.specs.Tree.{Tree, centre_at, distance}
use Rattle.rack_tree.proofs.Distances.{distance_by, steps_by}
use Rattle.wave_problem.specs.Sums.{least}
use Rattle.wave_problem.specs.Wave.{Wave, split_at, worker_at, worker_in, live_holders, least_distance, cost}
use Rattle.rack_network.specs.Racks.{above}

-- the least of a list is one of its numbers, and no more than each of them
least_from : (f : ℕ → ℕ) (xs : List ℕ) (a : ℕ) → ((fold min a (map f xs) ≡ a)
    ⊎ ((x : ℕ) × Contains xs x × (fold min a (map f xs) ≡ f x)))
    × (fold min a (map f xs) ≤ a) × ((z : ℕ) → Contains xs z → fold min a (map f xs) ≤ f z)
least_from f [] a = (inl refl, omega arith, λ z i. absurd (Contains-nil z i))
least_from f (y ∷ ys) a = let rest = least_from f ys (min a (f y)) in let low = rest.1 in (
  elim rest.0 [
    | inl e ↦ elim (cases_lt a (f y)) [
      | inl l ↦ inl (omega arith)
      | inr past ↦ inr (y, Contains-here ys y, omega arith)
    ]
    | inr r ↦ inr (r.0, Contains-there y ys r.0 r.1, r.2)
  ],
  omega arith,
  λ z i. elim (Contains-cons y ys z i) [ inl e ↦ (let at = ap f e in omega arith) | inr r ↦ rest.2 z r ],
)

least_is : (f : ℕ → ℕ) (xs : List ℕ) → 0 < length xs → (x : ℕ) × Contains xs x
    × (least (map f xs) ≡ Some (f x)) × ((z : ℕ) → Contains xs z → f x ≤ f z)
least_is f [] l = absurd (omega arith)
least_is f (y ∷ ys) l =
    let all = least_from f ys (f y) in
    let within : (z : ℕ) → Contains (y ∷ ys) z → fold min (f y) (map f ys) ≤ f z = λ z i.
    elim (Contains-cons y ys z i) [
      | inl e ↦ (let at = ap f e in let low = all.1 in omega arith)
      | inr r ↦ all.2 z r
    ] in
    elim all.0 [
      | inl e ↦ (y, Contains-here ys y, ap Some e, λ z i. (let low = within z i in omega arith))
      | inr r ↦ (
        r.0,
        Contains-there y ys r.0 r.1,
        ap Some r.2,
        λ z i. (let low = within z i in
            let same = r.2 in omega arith),
      )
    ]

pub holder_live : (wave : Wave) (s h : ℕ) → Contains (live_holders wave s) h → (worker_at wave h).live ≡ true
holder_live wave s h a = All-contains (λ g. (worker_in wave.workers g).live ≡ true) (live_holders wave s) h
    (filter_passes (λ g. (worker_in wave.workers g).live) (split_at wave s).holders) a

pub holder_held : (wave : Wave) (s h : ℕ) → Contains (live_holders wave s) h
    → 0 < length (live_holders wave s)
holder_held wave s h a = let some = a.1 in omega arith

-- no live holder is nearer than a start's cost says, and one is as near
cost_at : (wave : Wave) (s w d : ℕ) → least_distance wave s w ≡ Some d
    → unwrap_or (cost wave s w) 0 ≡ (split_at wave s).bytes * d
cost_at wave s w d e = ap (λ (o : Option ℕ). unwrap_or (option_map (λ d. (split_at wave s).bytes * d) o) 0) e

pub cost_is : (wave : Wave) (s w : ℕ) → 0 < length (live_holders wave s)
    → (h : ℕ) × Contains (live_holders wave s) h
    × (unwrap_or (cost wave s w) 0 ≡ (split_at wave s).bytes * distance wave.tree h w)
    × ((g : ℕ) → Contains (live_holders wave s) g
    → unwrap_or (cost wave s w) 0 ≤ (split_at wave s).bytes * distance wave.tree g w)
cost_is wave s w held =
    let best = least_is (λ h. distance wave.tree h w) (live_holders wave s) held in
    let at = cost_at wave s w (distance wave.tree best.0 w) best.2 in (
      best.0,
      best.1,
      at,
      λ g i. (let scaled = mul-le-mul_left (split_at wave s).bytes (best.3 g i) in omega arith),
    )

pub cost-le : (wave : Wave) (s w h : ℕ) → Contains (live_holders wave s) h
    → unwrap_or (cost wave s w) 0 ≤ (split_at wave s).bytes * distance wave.tree h w
cost-le wave s w h among = (cost_is wave s w (holder_held wave s h among)).3 h among

-- workers of one rack are no further apart than 2, others of a centre 4, and others 6
within_rack : (same centre : Bool) → steps_by same true centre ≤ 2
within_rack true centre = omega arith
within_rack false centre = omega arith

within_centre : (same rack : Bool) → steps_by same rack true ≤ 4
within_centre true rack = omega arith
within_centre false true = omega arith
within_centre false false = omega arith

within_cluster : (same rack centre : Bool) → steps_by same rack centre ≤ 6
within_cluster true rack centre = omega arith
within_cluster false true centre = omega arith
within_cluster false false true = omega arith
within_cluster false false false = omega arith

-- they meet at a level where the same node of it stands above both
module _ (wave : Wave) (h w : ℕ) where
  abbrev tree : Tree
  tree = wave.tree

  abbrev same_rack : Bool
  same_rack = get_or tree.rack_of h 0 == get_or tree.rack_of w 0

  abbrev same_centre : Bool
  same_centre = centre_at tree h == centre_at tree w

  pub distance-le : (level : ℕ) → level < 4 → above wave level h ≡ above wave level w
      → distance tree h w ≤ 2 * level
  distance-le zero l m =
      let none : distance tree h w ≡ 0 = distance_by tree h w
      ∙ ap (λ (b : Bool). steps_by b same_rack same_centre) (eq-eqb h w m) in
      omega (arith, none)
  distance-le (suc zero) l m =
      let two : distance tree h w ≡ steps_by (h == w) true same_centre = distance_by tree h w
      ∙ ap (λ (b : Bool). steps_by (h == w) b same_centre)
      (eq-eqb (get_or tree.rack_of h 0) (get_or tree.rack_of w 0) m) in
      omega (arith, two, within_rack (h == w) same_centre)
  distance-le (suc (suc zero)) l m =
      let four : distance tree h w ≡ steps_by (h == w) same_rack true = distance_by tree h w
      ∙ ap (λ (b : Bool). steps_by (h == w) same_rack b) (eq-eqb (centre_at tree h) (centre_at tree w) m) in
      omega (arith, four, within_centre (h == w) same_rack)
  distance-le (suc (suc (suc zero))) l m =
      omega (arith, distance_by tree h w, within_cluster (h == w) same_rack same_centre)
  distance-le (suc (suc (suc (suc level)))) l m = absurd (omega arith)

  -- they are as far apart as twice the least level at which they meet, which is the cluster's where their
  -- centres differ
  pub distance_is : (level : ℕ) × (level < 4) × (above wave level h ≡ above wave level w)
      × (distance tree h w ≡ 2 * level)
      × (2 < level → centre_at tree h ≡ centre_at tree w → ⊥)
  distance_is = elim (cases_eq h w) [
    | inl s ↦ (
      0,
      omega arith,
      s,
      distance_by tree h w ∙ ap (λ (b : Bool). steps_by b same_rack same_centre) (eq-eqb h w s),
      λ l e. omega arith,
    )
    | inr n ↦
        let other : distance tree h w ≡ steps_by false same_rack same_centre =
        distance_by tree h w ∙ ap (λ (b : Bool). steps_by b same_rack same_centre) (ne_eqb h w n) in
        elim (cases_eq (get_or tree.rack_of h 0) (get_or tree.rack_of w 0)) [
          | inl e ↦ (
            1,
            omega arith,
            e,
            other ∙ ap (λ (b : Bool). steps_by false b same_centre)
                (eq-eqb (get_or tree.rack_of h 0) (get_or tree.rack_of w 0) e),
            λ l same. omega arith,
          )
          | inr m ↦
              let far : distance tree h w ≡ steps_by false false same_centre = other
              ∙ ap (λ (b : Bool). steps_by false b same_centre)
              (ne_eqb (get_or tree.rack_of h 0) (get_or tree.rack_of w 0) m) in
              elim (cases_eq (centre_at tree h) (centre_at tree w)) [
                | inl c ↦ (
                  2,
                  omega arith,
                  c,
                  far ∙ ap (λ (b : Bool). steps_by false false b)
                      (eq-eqb (centre_at tree h) (centre_at tree w) c),
                  λ l same. omega arith,
                )
                | inr d ↦ (
                  3,
                  omega arith,
                  refl,
                  far ∙ ap (λ (b : Bool). steps_by false false b)
                      (ne_eqb (centre_at tree h) (centre_at tree w) d),
                  λ l same. d same,
                )
              ]
        ]
  ]

-- a holder that lives is a live holder, and each live holder is one
among_kept : (p : ℕ → Bool) (xs : List ℕ) (i : ℕ) → i < length xs → p (get_or xs i 0) ≡ true
    → Contains (filter p xs) (get_or xs i 0)
among_kept p [] i l t = absurd (omega arith)
among_kept p (y ∷ ys) zero l t = rw t (Contains-here (filter p ys) y)
among_kept p (y ∷ ys) (suc i) l t = elim (cases_Bool (p y)) [
  | inl k ↦ rw k (Contains-there y (filter p ys) (get_or ys i 0) (among_kept p ys i (omega arith) t))
  | inr f ↦ rw f (among_kept p ys i (omega arith) t)
]

pub live_holder : (wave : Wave) (s h : ℕ) → Contains (split_at wave s).holders h → (worker_at wave h).live ≡ true
    → Contains (live_holders wave s) h
live_holder wave s h held live =
    let p : ℕ → Bool = λ g. (worker_in wave.workers g).live in
    let is = get_or_default (split_at wave s).holders held.0 0 h held.1 ∙ held.2 in
    subst (Contains (live_holders wave s)) is
    (among_kept p (split_at wave s).holders held.0 held.1 (ap p is ∙ live))

pub holder_of : (wave : Wave) (s h : ℕ) → Contains (live_holders wave s) h
    → Contains (split_at wave s).holders h
holder_of wave s h held =
    let p : ℕ → Bool = λ g. (worker_in wave.workers g).live in
    let kept = All-filter p (Contains (split_at wave s).holders) (split_at wave s).holders
    (All-contains_itself (split_at wave s).holders) in
    All-contains (Contains (split_at wave s).holders) (live_holders wave s) h kept held
