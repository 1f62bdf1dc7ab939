-- The heads of a plan, split by split; and the lines of workers with queues.
use Rattle.std.proofs.Common.{[], ◌≡◌, ℕ, zero, suc, ◌+◌, ◌-◌, ◌<◌, ◌≤◌, ◌==◌, ◌⊎◌, List, ◌∷◌, ◌++◌}
use Rattle.std.proofs.Common.{length, take, cond, get_or, inl, inr, Option, None, Some, refl, sym, ap, ◌∙◌, arith}
use Rattle.std.proofs.Common.{length-append, subst}
use Rattle.std.specs.Prelude.{All, IfSome, MatchOption, max, min, slice_index_or}
use Rattle.std.proofs.lemmas.Bool.{cases_eq, eq-eqb, ne_eqb}
use Rattle.std.proofs.lemmas.List.{take_all}
use Rattle.std.proofs.lemmas.List.Elements.{All-push}
use Rattle.std.proofs.lemmas.List.Sums.{sum_by_push}
use Rattle.std.proofs.lemmas.Option.{none-some}
use Rattle.wave_problem.specs.declared.lines.WorkerLine.{WorkerLine}
use Rattle.wave_problem.specs.Wave.{worker_in}
use Rattle.wave_problem.specs.Assignment.{load, pairs_of, start_of}
use Rattle.wave_problem.proofs.Pairs.{load_at, load_same}
use Rattle.tree_planner.proofs.Paired.{pairs_push_none, pairs_push_some}
use Rattle.master_state.specs.Steps.{AreHeads, line_with, queue_lines}

-- ---- lines

pub length-queue : (asked : List ℕ) (lines : List WorkerLine) → length (queue_lines asked lines) ≡ length lines
length-queue asked [] = refl
length-queue [] (line ∷ lines) = ap suc (length-queue [] lines)
length-queue (n ∷ asked) (line ∷ lines) = ap suc (length-queue asked lines)

pub queue_at : (asked : List ℕ) (lines : List WorkerLine) (i : ℕ) (d : WorkerLine) → i < length lines →
    get_or (queue_lines asked lines) i d ≡ line_with (slice_index_or asked i 0) (get_or lines i d)
queue_at asked [] i d lt = absurd (omega (arith, lt))
queue_at [] (line ∷ lines) zero d lt =
    let same : line.free ≡ max 0 line.free = omega arith in
    (λ i. record { live = line.live; free = same i })
queue_at [] (line ∷ lines) (suc i) d lt = queue_at [] lines i d (omega (arith, lt))
queue_at (n ∷ asked) (line ∷ lines) zero d lt = refl
queue_at (n ∷ asked) (line ∷ lines) (suc i) d lt = queue_at asked lines i d (omega (arith, lt))

-- ---- heads

same_some : (u v : ℕ) → Some u ≡ Some v → u ≡ v
same_some u v e = cc

-- a start stands in the list
started_inside : (xs : List (Option ℕ)) (s w : ℕ) → start_of xs s ≡ Some w → s < length xs
started_inside [] s w is = absurd (let none = is in cc)
started_inside (x ∷ xs) zero w is = omega arith
started_inside (x ∷ xs) (suc s) w is = let inside = started_inside xs s w is in omega (arith, inside)

-- Of the first i splits of the plan these are the heads, and so many slots are left. Where a split is passed over,
-- its worker has none left.
pub record AreHeadsSoFar (lines left : List WorkerLine) (plan starts : List (Option ℕ)) (i : ℕ) : Type 0 where
  pub size : length starts ≡ i
  pub of_plan : (s w : ℕ) → start_of starts s ≡ Some w → start_of plan s ≡ Some w
  pub left_is : (w : ℕ) → (worker_in left w).free + load (pairs_of starts) w ≡ (worker_in lines w).free
  pub as_many : (w : ℕ) → load (pairs_of starts) w
      ≡ min (load (pairs_of (take i plan)) w) (worker_in lines w).free
  pub first : (s k w : ℕ) → s < i → start_of plan s ≡ Some w → start_of starts s ≡ None →
      start_of starts k ≡ Some w → k < s
  pub passed : (s w : ℕ) → s < i → start_of plan s ≡ Some w → start_of starts s ≡ None →
      (worker_in left w).free ≡ 0

-- all splits are gone through
pub all_heads : (lines left : List WorkerLine) (plan starts : List (Option ℕ)) (i : ℕ) → length plan ≤ i →
    AreHeadsSoFar lines left plan starts i → AreHeads lines plan starts
all_heads lines left plan starts i end so = record {
  of_plan = so.of_plan;
  as_many = λ w. so.as_many w ∙ ap (λ (p : List (Option ℕ)). min (load (pairs_of p) w) (worker_in lines w).free)
      (take_all i plan end);
  first = λ s k w is none head. so.first s k w (omega (arith, end, started_inside plan s w is)) is none head;
}

-- whether the worker of a pair is this one, as a number
abbrev IsOn : ℕ → ℕ → ℕ
IsOn u v = cond (u == v) 1 0

on_or_off : (u v : ℕ) → (IsOn u v ≡ 0) ⊎ ((u ≡ v) × (IsOn u v ≡ 1))
on_or_off u v = elim (cases_eq u v) [
  | inl same ↦ inr (same, ap (λ b. let n : ℕ = cond b 1 0 in n) (eq-eqb u v same))
  | inr other ↦ inl (ap (λ b. let n : ℕ = cond b 1 0 in n) (ne_eqb u v other))
]

-- a start of a list with one more is one of the list, or the last
push_at : (xs : List (Option ℕ)) (o : Option ℕ) (s w : ℕ) → start_of (xs ++ o ∷ []) s ≡ Some w →
    (start_of xs s ≡ Some w) ⊎ ((s ≡ length xs) × (o ≡ Some w))
push_at [] o zero w is = inr (refl, is)
push_at [] o (suc s) w is = absurd (let none = is in cc)
push_at (x ∷ xs) o zero w is = inl is
push_at (x ∷ xs) o (suc s) w is = elim (push_at xs o s w is) [
  | inl here ↦ inl here
  | inr last ↦ inr (ap suc last.0, last.1)
]

-- and where it has none, the list has none, or the last is none
push_none : (xs : List (Option ℕ)) (o : Option ℕ) (s : ℕ) → s < length xs + 1 →
    start_of (xs ++ o ∷ []) s ≡ None →
    ((s < length xs) × (start_of xs s ≡ None)) ⊎ ((s ≡ length xs) × (o ≡ None))
push_none [] o zero lt is = inr (refl, is)
push_none [] o (suc s) lt is = absurd (omega (arith, lt))
push_none (x ∷ xs) o zero lt is = inl (omega arith, is)
push_none (x ∷ xs) o (suc s) lt is = elim (push_none xs o s (omega (arith, lt)) is) [
  | inl here ↦ inl (omega (arith, here.0), here.1)
  | inr last ↦ inr (ap suc last.0, last.1)
]

module _ (lines left new : List WorkerLine) (plan starts : List (Option ℕ)) (i : ℕ) (inside : i < length plan)
    (so : AreHeadsSoFar lines left plan starts i) where
  load_none : (v : ℕ) → load (pairs_of (starts ++ None ∷ [])) v ≡ load (pairs_of starts) v
  load_none v = ap (λ ps. load ps v) (pairs_push_none starts)

  load_some : (w v : ℕ) → load (pairs_of (starts ++ Some w ∷ [])) v ≡ load (pairs_of starts) v + IsOn w v
  load_some w v = ap (λ ps. load ps v) (pairs_push_some starts i w (sym so.size))
      ∙ sum_by_push (λ pair. cond (pair.1 == v) 1 0) (pairs_of starts) (i, w)

  -- the plan's load where the split has no start, or its worker no slot left
  full_load : (o : Option ℕ) → start_of plan i ≡ o → IfSome o (λ w. (worker_in left w).free ≡ 0) → (v : ℕ) →
      load (pairs_of starts) v ≡ min (load (pairs_of (take (i + 1) plan)) v) (worker_in lines v).free
  full_load None is full v = so.as_many v
      ∙ ap (λ n. min n (worker_in lines v).free) (sym (load_same plan i v None inside (sym is) refl))
  full_load (Some u) is full v =
      let more = load_at plan i u v (Some u) inside (sym is) refl in
      elim (on_or_off u v) [
        | inl off ↦ omega (arith, more, off, so.as_many v)
        | inr on ↦
            let none : (worker_in left v).free ≡ 0 = subst (λ x. (worker_in left x).free ≡ 0) on.0 full in
            omega (arith, more, on.1, so.as_many v, so.left_is v, none)
      ]

  -- the split has no start, or its worker has no slot left
  pub heads_none : new ≡ left → IfSome (start_of plan i) (λ w. (worker_in left w).free ≡ 0) →
      AreHeadsSoFar lines new plan (starts ++ None ∷ []) (i + 1)
  heads_none same full =
      let before : (s w : ℕ) → start_of (starts ++ None ∷ []) s ≡ Some w → start_of starts s ≡ Some w =
      λ s w is. elim (push_at starts None s w is) [
        | inl here ↦ here
        | inr last ↦ absurd (none-some w last.1)
      ] in
      record {
        size = omega (arith, length-append starts (None ∷ []), so.size);
        of_plan = λ s w is. so.of_plan s w (before s w is);
        left_is = λ w. ap (λ (l : List WorkerLine). (worker_in l w).free + load (pairs_of (starts ++ None ∷ [])) w)
            same
            ∙ omega (arith, load_none w, so.left_is w);
        as_many = λ v. load_none v ∙ full_load (start_of plan i) refl full v;
        first = λ s k w lt is none head. elim (push_none starts None s (omega (arith, lt, so.size)) none) [
          | inl here ↦ so.first s k w (omega (arith, here.0, so.size)) is here.1 (before k w head)
          | inr last ↦ omega (
            arith,
            last.0,
            started_inside starts k w (before k w head),
          )
        ];
        passed = λ s w lt is none.
            ap (λ (l : List WorkerLine). (worker_in l w).free) same
            ∙ elim (push_none starts None s (omega (arith, lt, so.size)) none) [
              | inl here ↦ so.passed s w (omega (arith, here.0, so.size)) is here.1
              | inr last ↦
                  let at : start_of plan i ≡ Some w =
                  ap (start_of plan) (sym so.size ∙ sym last.0) ∙ is in
                  subst (λ (o : Option ℕ). IfSome o (λ u. (worker_in left u).free ≡ 0)) at full
            ];
      }

  -- it takes one
  pub heads_some : (w : ℕ) → start_of plan i ≡ Some w → 0 < (worker_in left w).free →
      ((v : ℕ) → (worker_in new v).free ≡ (worker_in left v).free - IsOn w v) →
      AreHeadsSoFar lines new plan (starts ++ Some w ∷ []) (i + 1)
  heads_some w is some taken =
      let fewer : (v : ℕ) → (worker_in left v).free ≡ 0 → (worker_in new v).free ≡ 0 =
      λ v none. omega (arith, taken v, none) in
      let slot : (v : ℕ) → IsOn w v ≤ (worker_in left v).free = λ v. elim (on_or_off w v) [
        | inl off ↦ omega (arith, off)
        | inr on ↦
            let here = subst (λ x. 0 < (worker_in left x).free) on.0 some in
            omega (arith, on.1, here)
      ] in
      record {
        size = omega (arith, length-append starts (Some w ∷ []), so.size);
        of_plan = λ s v at. elim (push_at starts (Some w) s v at) [
          | inl here ↦ so.of_plan s v here
          | inr last ↦ ap (start_of plan) (last.0 ∙ so.size) ∙ is ∙ last.1
        ];
        left_is = λ v. omega (arith, load_some w v, taken v, slot v, so.left_is v);
        as_many = λ v. omega (
          arith,
          load_some w v,
          load_at plan i w v (Some w) inside (sym is) refl,
          so.as_many v,
          so.left_is v,
          slot v,
        );
        first = λ s k v lt at none head. elim (push_none starts (Some w) s (omega (arith, lt, so.size)) none) [
          | inl here ↦ elim (push_at starts (Some w) k v head) [
            | inl old ↦ so.first s k v (omega (arith, here.0, so.size)) at here.1 old
            | inr last ↦
                let same : w ≡ v = same_some w v last.1 in
                let empty = so.passed s v (omega (arith, here.0, so.size)) at here.1 in
                absurd (omega (arith, subst (λ x. 0 < (worker_in left x).free) same some, empty))
          ]
          | inr last ↦ absurd (none-some w (sym last.1))
        ];
        passed = λ s v lt at none. fewer v (elim (push_none starts (Some w) s (omega (arith, lt, so.size)) none) [
          | inl here ↦ so.passed s v (omega (arith, here.0, so.size)) at here.1
          | inr last ↦ absurd (none-some w (sym last.1))
        ]);
      }

-- the start of the split, or none, is what `take_head` answers
module _ (lines left new : List WorkerLine) (plan starts : List (Option ℕ)) (i : ℕ) (inside : i < length plan)
    (so : AreHeadsSoFar lines left plan starts i) where
  abbrev Taken : Option ℕ → Option ℕ → Type 0
  Taken start o = IfSome o (λ w. (start ≡ Some w) × (0 < (worker_in left w).free)
      × ((v : ℕ) → (worker_in new v).free ≡ (worker_in left v).free - IsOn w v))

  abbrev Passed : Option ℕ → Option ℕ → Type 0
  Passed start o = MatchOption o ((new ≡ left) × IfSome start (λ w. (worker_in left w).free ≡ 0)) (λ w. Unit {0})

  pub heads_more : (start o : Option ℕ) → start ≡ start_of plan i → Taken start o → Passed start o →
      AreHeadsSoFar lines new plan (starts ++ o ∷ []) (i + 1)
  heads_more start None is taken none =
      heads_none lines left new plan starts i inside so none.0
      (subst (λ (s : Option ℕ). IfSome s (λ w. (worker_in left w).free ≡ 0)) is none.1)
  heads_more start (Some w) is taken none =
      heads_some lines left new plan starts i inside so w (sym is ∙ taken.0) taken.1 taken.2

  pub known_more : (workers : ℕ) (start o : Option ℕ) → IfSome start (λ w. w < workers) → Taken start o →
      All (λ s. IfSome s (λ w. w < workers)) starts →
      All (λ s. IfSome s (λ w. w < workers)) (starts ++ o ∷ [])
  known_more workers start None inside taken known = All-push (λ s. IfSome s (λ w. w < workers)) starts None known tt
  known_more workers start (Some w) within taken known =
      All-push (λ s. IfSome s (λ w. w < workers)) starts (Some w) known
      (subst (λ (s : Option ℕ). IfSome s (λ x. x < workers)) taken.0 within)
