-- The copies that are computed are the copies by their definition.
use Rattle.std.proofs.Common.{◌≡◌, ℕ, zero, suc, ◌+◌, ◌<◌, ◌≤◌, ◌⊎◌, ◌++◌, true, false, Bool, ltb}
use Rattle.std.proofs.Common.{List, [], ◌∷◌, Option, Some, None, inl, inr, refl, sym, ap, ◌∙◌, subst, arith}
use Rattle.std.proofs.Common.{All, append-nil, cond, length, min}
use Rattle.std.proofs.lemmas.List.{get_or_past, length-append}
use Rattle.std.specs.Prelude.{fold, Contains, IfSome, IsSome, is_some}
use Rattle.std.specs.Option.{option_map}
use Rattle.std.proofs.Math.Numerals.{add-one}
use Rattle.std.proofs.lemmas.Bool.{cases_Bool, cases_lt, false≢true, ltb-true, lt-ltb, and_parts}
use Rattle.std.proofs.lemmas.List.Elements.{All-cons, All-head, All-nil, All-tail}
use Rattle.worker_table.specs.declared.Worker.{Worker}
use Rattle.worker_table.specs.Workers.{is_live}
use Rattle.block_map.specs.declared.CopyOrder.{CopyOrder}
use Rattle.block_map.specs.Holdings.{holders_of}
use Rattle.block_map.specs.Copies.{AreCopies, Holdings, IsCopy, IsNoWorse, WantsCopy, all_copies, best_below}
use Rattle.block_map.specs.Copies.{better, copies_below, copy_at, live_count, lowest_of, may_hold}
use Rattle.block_map.specs.Copies.{one_or_none, replicas_beside, wants_copy}
use Rattle.block_map.proofs.Copying.{IsTargetBelow, fewest_first, target_next, target_skip, target_stays}
use Rattle.block_map.proofs.Orders.{AreCopiesBelow, copies_push, copies_skip}
use Rattle.block_map.proofs.Room.{some_target}

-- ---- the lowest holder

lowest_least : (n : ℕ) (numbers : List ℕ) → All (λ h. fold min n numbers ≤ h) (n ∷ numbers)
lowest_least n [] = All-cons (λ h. n ≤ h) n [] (omega arith) (λ k d inside. absurd (omega (arith, inside)))
lowest_least n (m ∷ numbers) =
    let low : ℕ = fold min (min n m) numbers in
    let below = lowest_least (min n m) numbers in
    let first : low ≤ min n m = All-head (λ h. low ≤ h) (min n m) numbers below in
    let rest : All (λ h. low ≤ h) numbers = All-tail (λ h. low ≤ h) (min n m) numbers below in
    All-cons (λ h. low ≤ h) n (m ∷ numbers) (omega (arith, first))
    (All-cons (λ h. low ≤ h) m numbers (omega (arith, first)) rest)

lowest_reached : (n : ℕ) (numbers : List ℕ) →
    (fold min n numbers ≡ n) ⊎ Contains numbers (fold min n numbers)
lowest_reached n [] = inl refl
lowest_reached n (m ∷ numbers) =
    let low : ℕ = fold min (min n m) numbers in
    elim (lowest_reached (min n m) numbers) [
      | inl first ↦ elim (cases_lt m n) [
        | inl less ↦
            let same : m ≡ low = omega (arith, first, less) in
            inr (0, omega arith, same)
        | inr most ↦ inl (omega (arith, first, most))
      ]
      | inr later ↦ inr (suc later.0, omega (arith, later.1), later.2)
    ]

lowest_held : (holders : List ℕ) → 0 < length holders → Contains holders (lowest_of holders)
lowest_held [] some = absurd (omega (arith, some))
lowest_held (n ∷ numbers) some = elim (lowest_reached n numbers) [
  | inl first ↦ (0, omega arith, sym first)
  | inr later ↦ (suc later.0, omega (arith, later.1), later.2)
]

lowest_of_all : (holders : List ℕ) → All (λ h. lowest_of holders ≤ h) holders
lowest_of_all [] = λ k d inside. absurd (omega (arith, inside))
lowest_of_all (n ∷ numbers) = lowest_least n numbers

same_lowest : (holders : List ℕ) (a b : ℕ) → Contains holders a → All (λ h. a ≤ h) holders →
    Contains holders b → All (λ h. b ≤ h) holders → a ≡ b
same_lowest holders a b held low has least =
    let one : a ≤ b = subst (λ (h : ℕ). a ≤ h) has.2 (low has.0 b has.1) in
    let other : b ≤ a = subst (λ (h : ℕ). b ≤ h) held.2 (least held.0 a held.1) in
    omega (arith, one, other)

-- ---- the worker to copy to

best_more : (h : Holdings) (s n : ℕ) (best : Option ℕ) → IsTargetBelow h s n best →
    IsTargetBelow h s (n + 1) (better h s best n)
best_more h s n None below = elim (cases_Bool (may_hold h s n)) [
  | inl on ↦ rw on (target_next h s n None on below tt)
  | inr off ↦ rw off (target_skip h s n None off below)
]
best_more h s n (Some b) below = elim (cases_Bool (may_hold h s n)) [
  | inl on ↦ elim (cases_lt (replicas_beside h s n) (replicas_beside h s b)) [
    | inl fewer ↦ rw (on, lt-ltb _ _ fewer) (target_next h s n (Some b) on below (inl fewer))
    | inr most ↦ elim (cases_Bool (ltb (replicas_beside h s n) (replicas_beside h s b))) [
      | inl fewer ↦ absurd (omega (arith, most, ltb-true _ _ fewer))
      | inr off ↦
          rw (on, off) (target_stays h s n b below (fewest_first h s b n most (omega (arith, below.0))))
    ]
  ]
  | inr off ↦ rw off (target_skip h s n (Some b) off below)
]

best_is : (h : Holdings) (s n : ℕ) → IsTargetBelow h s n (best_below h s n)
best_is h s zero = λ w below. absurd (omega (arith, below))
best_is h s (suc n) =
    subst (λ (k : ℕ). IsTargetBelow h s k (best_below h s (suc n))) (add-one n)
    (best_more h s n (best_below h s n) (best_is h s n))

live_inside : (h : Holdings) (s w : ℕ) → may_hold h s w ≡ true → w < length h.workers.each
live_inside h s w may = elim (cases_lt w (length h.workers.each)) [
  | inl inside ↦ inside
  | inr past ↦
      let live = (and_parts (is_live h.workers w) _ may).0 in
      absurd (false≢true (sym (ap (λ (worker : Worker). worker.live) (get_or_past h.workers.each w _ past))
      ∙ live))
]

-- two workers to which it is best to copy are one
same_target : (h : Holdings) (s a b : ℕ) → IsNoWorse h s a b → IsNoWorse h s b a → a ≡ b
same_target h s a b (inl p) (inl q) = absurd (omega (arith, p, q))
same_target h s a b (inl p) (inr q) = absurd (omega (arith, p, q.0))
same_target h s a b (inr p) (inl q) = absurd (omega (arith, p.0, q))
same_target h s a b (inr p) (inr q) = omega (arith, p.1, q.1)

-- ---- the copy of a split

pub wants : (h : Holdings) (s : ℕ) → wants_copy h s ≡ true → WantsCopy h s
wants h s on = grind (arith, and_parts, ltb-true)

wanted : (h : Holdings) (s : ℕ) → WantsCopy h s → wants_copy h s ≡ true
wanted h s want = rw (lt-ltb _ _ want.held, lt-ltb _ _ want.few) refl

-- the best worker is one to copy to, and it is found
pub record HasBest (h : Holdings) (s : ℕ) (best : Option ℕ) (to : ℕ) : Type 0 where
  pub is : best ≡ Some to
  pub allowed : may_hold h s to ≡ true
  pub fewest : (w : ℕ) → may_hold h s w ≡ true → IsNoWorse h s to w

has_best : (h : Holdings) (s : ℕ) (best : Option ℕ) → IsTargetBelow h s (length h.workers.each) best →
    IsSome best → (to : ℕ) × HasBest h s best to
has_best h s None below some = absurd (false≢true some)
has_best h s (Some to) below some = (
  to,
  record {
    is = refl;
    allowed = below.1;
    fewest = λ w may. below.2 w (live_inside h s w may) may;
  },
)

pub record HasCopy (h : Holdings) (s : ℕ) (order : CopyOrder) : Type 0 where
  pub is : copy_at h s ≡ Some order
  pub split : order.split ≡ s
  pub copy : IsCopy h order

pub has_copy : (h : Holdings) (s : ℕ) → WantsCopy h s → (order : CopyOrder) × HasCopy h s order
has_copy h s want =
    let n : ℕ = length h.workers.each in
    let below = best_is h s n in
    let few : length (holders_of h.lists s) < live_count h.workers = omega (arith, want.few) in
    let best = has_best h s (best_below h s n) below
    (some_target h s n (best_below h s n) refl few below) in
    let order : CopyOrder = record { split = s; from = lowest_of (holders_of h.lists s); to = best.0 } in (
      order,
      record {
        is = λ k. cond (wanted h s want k)
            (option_map (λ to. record { split = s; from = lowest_of (holders_of h.lists s); to = to })
            (best.1.is k)) None;
        split = refl;
        copy = record {
          wanted = want;
          held = lowest_held (holders_of h.lists s) want.held;
          lowest = lowest_of_all (holders_of h.lists s);
          allowed = best.1.allowed;
          fewest = best.1.fewest;
        };
      },
    )

-- the copy that is computed for a split is its only copy
pub is_the_copy : (h : Holdings) (order : CopyOrder) → IsCopy h order → copy_at h order.split ≡ Some order
is_the_copy h order copy =
    let s : ℕ = order.split in
    let has = has_copy h s copy.wanted in
    let other : CopyOrder = has.0 in
    let its : IsCopy h other = has.1.copy in
    let split : other.split ≡ s = has.1.split in
    let holders : holders_of h.lists other.split ≡ holders_of h.lists s =
    ap (λ (k : ℕ). holders_of h.lists k) split in
    let from : other.from ≡ order.from = same_lowest (holders_of h.lists s) other.from order.from
    (subst (λ (l : List ℕ). Contains l other.from) holders its.held)
    (subst (λ (l : List ℕ). All (λ h. other.from ≤ h) l) holders its.lowest)
    copy.held copy.lowest in
    let may : may_hold h s other.to ≡ true =
    ap (λ (k : ℕ). may_hold h k other.to) (sym split) ∙ its.allowed in
    let least : IsNoWorse h s other.to order.to =
    subst (λ (k : ℕ). IsNoWorse h k other.to order.to) split
    (its.fewest order.to (ap (λ (k : ℕ). may_hold h k order.to) split ∙ copy.allowed)) in
    let to : other.to ≡ order.to = same_target h s other.to order.to least (copy.fewest other.to may) in
    has.1.is ∙ (λ i. Some (record { split = split i; from = from i; to = to i }))

pub no_copy : (h : Holdings) (s : ℕ) → wants_copy h s ≡ false → copy_at h s ≡ None
no_copy h s off = rw off refl

pub copy_is : (h : Holdings) (s : ℕ) → IfSome (copy_at h s) (IsCopy h)
copy_is h s = elim (cases_Bool (wants_copy h s)) [
  | inl on ↦
      let has = has_copy h s (wants h s on) in
      subst (λ (o : Option CopyOrder). IfSome o (IsCopy h)) (sym has.1.is) has.1.copy
  | inr off ↦ subst (λ (o : Option CopyOrder). IfSome o (IsCopy h)) (sym (no_copy h s off)) tt
]

pub copy_wanted : (h : Holdings) (s : ℕ) → is_some (copy_at h s) ≡ wants_copy h s
copy_wanted h s = elim (cases_Bool (wants_copy h s)) [
  | inl on ↦ ap (λ (o : Option CopyOrder). is_some o) (has_copy h s (wants h s on)).1.is ∙ sym on
  | inr off ↦ ap (λ (o : Option CopyOrder). is_some o) (no_copy h s off) ∙ sym off
]

-- ---- the copies of all splits

no_want : (h : Holdings) (s : ℕ) → wants_copy h s ≡ false → WantsCopy h s → ⊥
no_want h s off want = false≢true (sym off ∙ wanted h s want)

copies_are_below : (h : Holdings) (n : ℕ) → AreCopiesBelow h n (copies_below h n)
copies_are_below h zero = record {
  rising = λ k inside. absurd (omega (arith, inside));
  each = All-nil (IsCopy h);
  below = All-nil (λ s. s < 0);
  all = λ s below want. absurd (omega (arith, below));
}
copies_are_below h (suc n) = subst (λ (k : ℕ). AreCopiesBelow h k (copies_below h (suc n))) (add-one n)
    (elim (cases_Bool (wants_copy h n)) [
      | inl on ↦
          let has = has_copy h n (wants h n on) in
          rw has.1.is
          (copies_push h n (copies_below h n) has.0 (copies_are_below h n) has.1.split has.1.copy)
      | inr off ↦
          let none : copies_below h n ++ one_or_none (copy_at h n) ≡ copies_below h n =
          ap (λ o. copies_below h n ++ one_or_none o) (no_copy h n off) ∙ append-nil (copies_below h n) in
          rw none (copies_skip h n (copies_below h n) (copies_are_below h n) (no_want h n off))
    ])

-- the computed copies are all copies
pub copies_are : (h : Holdings) → AreCopies h (all_copies h)
copies_are h =
    let n : ℕ = length h.lists in
    let below = copies_are_below h n in
    record {
      rising = below.rising;
      each = below.each;
      all = λ s want. below.all s (elim (cases_lt s n) [
        | inl inside ↦ inside
        | inr past ↦
            let none : length (holders_of h.lists s) ≡ 0 = ap length (get_or_past h.lists s [] past) in
            absurd (omega (arith, want.held, none))
      ]) want;
    }

-- a split that wants a copy is one more
pub copies_more : (h : Holdings) (n : ℕ) →
    length (copies_below h (n + 1)) ≡ length (copies_below h n) + cond {A = ℕ} (wants_copy h n) 1 0
copies_more h n =
    let before = copies_below h n in
    let longer : Option CopyOrder → ℕ = λ order. length (before ++ one_or_none order) in
    subst
    (λ (k : ℕ). length (copies_below h k) ≡ length before + cond {A = ℕ} (wants_copy h n) 1 0)
    (sym (add-one n))
    (elim (cases_Bool (wants_copy h n)) [
      | inl on ↦
          let has = has_copy h n (wants h n on) in
          ap longer has.1.is ∙ length-append before (has.0 ∷ [])
          ∙ ap (λ (b : Bool). length before + cond {A = ℕ} b 1 0) (sym on)
      | inr off ↦
          ap longer (no_copy h n off) ∙ length-append before []
          ∙ ap (λ (b : Bool). length before + cond {A = ℕ} b 1 0) (sym off)
    ])
