-- An engine whose touched workers get their lines.
use Rattle.std.proofs.Common.{[], ◌≡◌, ℕ, ◌+◌, ◌<◌, ◌≤◌, ◌⊎◌, inl, inr, List, ◌∷◌, ◌++◌, length, refl, sym, ap}
use Rattle.std.proofs.Common.{◌∙◌, subst, arith, Bool, false, Err, Ok, Result, Some}
use Rattle.std.specs.Prelude.{◌≢◌, slice_index_or, IfOk, IsPermutation, IsTrue, OnOk}
use Rattle.std.proofs.lemmas.Bool.{cases_eq}
use Rattle.std.specs.List.{Contains}
use Rattle.std.proofs.lemmas.List.Elements.{Contains-append_left, Contains-append_right}
use Rattle.std.proofs.lemmas.List.Sorted.{Contains-permutation}
use Rattle.std.proofs.lemmas.Option.{same_Some}
use Rattle.wave_problem.specs.declared.lines.WorkerLine.{WorkerLine}
use Rattle.wave_problem.specs.Wave.{worker_at, worker_in, Wave}
use Rattle.tree_flow.specs.Slots.{with_workers}
use Rattle.tree_planner.specs.Going.{HasLine}
use Rattle.tree_planner.proofs.Gained.{all_gained}
use Rattle.master_core.specs.declared.touched.Touched.{Touched}
use Rattle.master_core.specs.Near.{HasLines}
use Rattle.master_core.specs.Fitting.{AreFitAmong, AreLinedBut, AreOthersLined, HasOtherLines}
use Rattle.master_core.proofs.Touching.{ahead_then, IsAhead}

-- no split started, or one more did, on the worker that the list then has at its end
module _ (old now next : Wave) (started : List ℕ) (before : AreOthersLined old now started) where
  pub others_same : ((w : ℕ) → worker_at next w ≡ worker_at now w) → AreOthersLined old next started
  others_same same = λ w. elim (before w) [
    | inl has ↦ inl has
    | inr kept ↦ inr (same w ∙ kept)
  ]

  pub others_then : (worker : ℕ) → ((w : ℕ) → Some worker ≢ Some w → worker_at next w ≡ worker_at now w) →
      AreOthersLined old next (started ++ worker ∷ [])
  others_then worker same = λ w. elim (cases_eq w worker) [
    | inl is ↦ inl (Contains-append_right started (worker ∷ []) w (0, omega arith, sym is))
    | inr other ↦ elim (before w) [
      | inl has ↦ inl (Contains-append_left started (worker ∷ []) w has)
      | inr kept ↦ inr (same w (λ e. other (sym (same_Some _ _ e))) ∙ kept)
    ]
  ]

-- the workers that are to be fitted are fitted, but for those still to come in the list
pub record AreFitBefore (old now : Wave) (listed : List ℕ) (lines : List WorkerLine) (i : ℕ) : Type 0 where
  pub only : HasOtherLines old now
  pub done : (w : ℕ) → w < length old.workers → Contains listed w ⊎ (worker_at old w ≡ worker_in lines w) →
      IsAhead listed i w ⊎ (worker_at now w ≡ worker_in lines w)

pub none_fit_before : (wave : Wave) (listed : List ℕ) (lines : List WorkerLine) →
    AreFitBefore wave wave listed lines 0
none_fit_before wave listed lines = record {
  only = record { rest = refl; size = refl };
  done = λ w l is. elim is [
    | inl (j, known, found) ↦ inl (j, omega arith, known, found)
    | inr has ↦ inr has
  ];
}

-- one worker more gets its line
module _ (old now next : Wave) (listed : List ℕ) (lines : List WorkerLine) (i worker : ℕ)
    (before : AreFitBefore old now listed lines i) (known : i < length listed)
    (is : worker ≡ slice_index_or listed i worker) where
  pub others_line : HasLine now next worker (worker_at next worker) → HasOtherLines old next
  others_line has = record {
    rest = has.rest ∙ ap (λ (x : Wave). with_workers x next.workers) before.only.rest;
    size = has.size ∙ before.only.size;
  }

  pub one_fit_before : HasLine now next worker (worker_at next worker) →
      worker_at next worker ≡ worker_in lines worker → AreFitBefore old next listed lines (i + 1)
  one_fit_before has here = record {
    only = others_line has;
    done = λ w l need. elim (cases_eq w worker) [
      | inl same ↦ inr (subst (λ (w : ℕ). worker_at next w ≡ worker_in lines w) (sym same) here)
      | inr other ↦ elim (before.done w l need) [
        | inl left ↦ inl (ahead_then listed i worker known is w other left)
        | inr fit ↦ inr (has.others w other ∙ fit)
      ]
    ];
  }

  -- or it is none of the wave
  pub one_strange : length now.workers ≤ worker → AreFitBefore old now listed lines (i + 1)
  one_strange past = record {
    only = before.only;
    done = λ w l need. elim (cases_eq w worker) [
      | inl same ↦ absurd (let size = before.only.size in omega (arith, same, past, l, size))
      | inr other ↦ elim (before.done w l need) [
        | inl left ↦ inl (ahead_then listed i worker known is w other left)
        | inr fit ↦ inr fit
      ]
    ];
  }

-- all are fitted at the end of the list
pub all_fit_before : (old now : Wave) (listed : List ℕ) (lines : List WorkerLine) (i : ℕ) →
    AreFitBefore old now listed lines i → length listed ≤ i → AreFitAmong old now listed lines
all_fit_before old now listed lines i before past = λ w l need. elim (before.done w l need) [
  | inl (j, from, within, found) ↦ absurd (omega (arith, from, within, past))
  | inr fit ↦ fit
]

-- so all workers have their lines where the touched ones were listed, and those on which splits started
module _ (old new : Wave) (touched : Touched) (started listed : List ℕ) (lines : List WorkerLine)
    (few : touched.any ≡ false) (lined : AreLinedBut old touched started lines)
    (many : length lines ≡ length old.workers)
    (order : IsPermutation (touched.workers.items ++ started) listed) where
  need_fit : (w : ℕ) → Contains listed w ⊎ (worker_at old w ≡ worker_in lines w)
  need_fit w = elim (lined w) [
    | inl (inl all) ↦ absurd cc
    | inl (inr has) ↦ inl (Contains-permutation _ listed w order
        (Contains-append_left touched.workers.items started w has))
    | inr (inl has) ↦ inl (Contains-permutation _ listed w order
        (Contains-append_right touched.workers.items started w has))
    | inr (inr is) ↦ inr is
  ]

  pub all_fit : {E : Type 0} (fit : Result Bool E) → OnOk fit (HasOtherLines old new) →
      IfOk fit (λ fit. IsTrue fit → AreFitAmong old new listed lines) →
      IfOk fit (λ fit. IsTrue fit → new ≡ with_workers old lines)
  all_fit (Ok fit) only each = λ is. all_gained old new lines only.rest (omega (arith, many, only.size))
      (λ w l. each is w (omega (arith, many, l)) (need_fit w))
  all_fit (Err e) only each = tt

-- what an untouched worker has, on which no split started
pub lined_but : (old now : Wave) (touched : Touched) (started : List ℕ) (lines : List WorkerLine) →
    HasLines old touched lines → IsTrue touched.any ⊎ AreOthersLined old now started →
    AreLinedBut now touched started lines
lined_but old now touched started lines lined kept = λ w. elim kept [
  | inl any ↦ inl (inl any)
  | inr others ↦ elim (lined w) [
    | inl here ↦ inl here
    | inr is ↦ elim (others w) [
      | inl has ↦ inr (inl has)
      | inr same ↦ inr (inr (same ∙ is))
    ]
  ]
]
