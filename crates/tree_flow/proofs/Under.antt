-- Sums over the workers under a node, and splits that stand there.
use Rattle.std.proofs.Common.{◌≡◌, ℕ, zero, suc, ◌*◌, ◌<◌, ◌≤◌, Bool, true, false, cond, length, refl}
use Rattle.std.proofs.Common.{ap, ◌∙◌, inl, inr, arith, get_or}
use Rattle.std.specs.Prelude.{◌==◌}
use Rattle.std.proofs.lemmas.Bool.{cases_Bool, cases_eq, cases_lt, ne_eqb}
use Rattle.std.proofs.lemmas.List.{get_or_past}
use Rattle.std.proofs.lemmas.List.Sums.{get_or-le-sum_by}
use Rattle.rack_tree.specs.declared.TheConstants.{MAX_WORKERS}
use Rattle.wave_problem.specs.Sums.{sum_below}
use Rattle.wave_problem.specs.declared.TheConstants.{MAX_SLOTS}
use Rattle.wave_problem.specs.declared.lines.WorkerLine.{WorkerLine}
use Rattle.wave_problem.specs.Wave.{Wave, IsUsable, IsWithinLimits, worker_at}
use Rattle.wave_problem.proofs.Grouping.{sum_below-same, sum_below-zero, sum_below-one}
use Rattle.tree_flow.specs.declared.nodes.TreeNode.{TreeNode}
use Rattle.tree_flow.specs.declared.nodes.TreeNode.TheVariants.{Worker}
use Rattle.tree_flow.specs.declared.nodes.End.{End}
use Rattle.tree_flow.specs.Nodes.{is_under}
use Rattle.tree_flow.specs.declared.nodes.Place.{Place}
use Rattle.tree_flow.specs.declared.nodes.Place.TheVariants.{Stands, Waits}
use Rattle.tree_flow.specs.State.{State, place_of, sum_under, slots_of, stands_under}
use Rattle.tree_flow.specs.State.{standing_under}

pub one_of_sum : (n w : ℕ) (f : ℕ → ℕ) → w < n → f w ≤ sum_below n f
one_of_sum zero w f l = absurd (omega arith)
one_of_sum (suc n) w f l = elim (cases_eq w n) [
  | inl e ↦ (let at = ap f e in omega arith)
  | inr d ↦ (let rest = one_of_sum n w f (omega arith) in omega arith)
]

-- a worker under a node counts there
pub under-le : (wave : Wave) (v : TreeNode) (f : ℕ → ℕ) (w : ℕ) → w < length wave.workers
    → is_under wave.tree (Worker w) v ≡ true → f w ≤ sum_under wave v f
under-le wave v f w l u =
    let all = one_of_sum (length wave.workers) w (λ w. cond (is_under wave.tree (Worker w) v) (f w) 0) l in
    rw u at all

-- of a worker, its own alone
pub under_worker : (wave : Wave) (f : ℕ → ℕ) (w : ℕ) → w < length wave.workers
    → sum_under wave (Worker w) f ≡ f w
under_worker wave f w l = sum_below-one (length wave.workers) w f l

pub some_slots : (wave : Wave) (w : ℕ) → 0 < slots_of wave w → IsUsable wave.workers w
some_slots wave w l = elim (cases_Bool (worker_at wave w).live) [
  | inl live ↦ (live, rw live at l)
  | inr dead ↦ absurd (let none = rw dead at l in omega arith)
]

pub slots-usable : (wave : Wave) (w : ℕ) → IsUsable wave.workers w → slots_of wave w ≡ (worker_at wave w).free
slots-usable wave w u = ap (λ (b : Bool). cond b (worker_at wave w).free 0) u.0

-- a worker that has slots is usable
pub slots_under : (wave : Wave) (w : ℕ) → 0 < sum_under wave (Worker w) (slots_of wave) → IsUsable wave.workers w
slots_under wave w l = elim (cases_lt w (length wave.workers)) [
  | inl known ↦ some_slots wave w (let own = under_worker wave (slots_of wave) w known in omega arith)
  | inr past ↦
      (let none : sum_under wave (Worker w) (slots_of wave) ≡ 0 =
      sum_below-same (length wave.workers) (λ x. cond (w == x) (slots_of wave x) 0) (λ _. 0)
      (λ x m. rw (ne_eqb w x (λ d. omega arith)) refl) ∙ sum_below-zero (length wave.workers) in
      absurd (omega arith))
]

-- a split that stands is one of the places
pub stands_known : (state : State) (s : ℕ) (e : End) → place_of state s ≡ Stands e → s < length state.places
stands_known state s e stands = elim (cases_lt s (length state.places)) [
  | inl l ↦ l
  | inr past ↦ (let waits = get_or_past state.places s Waits past in cc)
]

-- a split that stands is counted on each node above it
pub counted : (wave : Wave) (state : State) (s : ℕ) (e : End) (v : TreeNode) → place_of state s ≡ Stands e
    → is_under wave.tree e.node v ≡ true → 0 < standing_under wave state v
counted wave state s e v stands under =
    let one = get_or-le-sum_by (λ place. cond {A = ℕ} (stands_under wave.tree v place) 1 0) state.places s Waits
    (stands_known state s e stands) in
    let here : cond {A = ℕ} (stands_under wave.tree v (get_or state.places s Waits)) 1 0 ≡ 1 =
    ap (λ (p : Place). cond {A = ℕ} (stands_under wave.tree v p) 1 0) stands
    ∙ ap (λ (b : Bool). cond {A = ℕ} b 1 0) under in
    omega arith

sum_below-most : (n m : ℕ) (f : ℕ → ℕ) → ((w : ℕ) → f w ≤ m) → sum_below n f ≤ m * n
sum_below-most zero m f few = omega arith
sum_below-most (suc n) m f few = (let rest = sum_below-most n m f few in let last = few n in grind arith)

-- no node has more slots under it than all workers together may have
pub slots-most : (wave : Wave) → IsWithinLimits wave → (v : TreeNode)
    → sum_under wave v (slots_of wave) ≤ MAX_SLOTS * MAX_WORKERS
slots-most wave within v =
    let most = sum_below-most (length wave.workers) MAX_SLOTS
    (λ w. cond (is_under wave.tree (Worker w) v) (slots_of wave w) 0) (λ w. few w (is_under wave.tree (Worker w) v)) in
    let workers = within.few_workers in
    omega arith
  where
    line : (w : ℕ) → (worker_at wave w).free ≤ MAX_SLOTS
    line w = elim (cases_lt w (length wave.workers)) [
      | inl known ↦ within.slots w _ known
      | inr past ↦
          (let none : (worker_at wave w).free ≡ 0 =
          ap (λ (l : WorkerLine). l.free) (get_or_past wave.workers w (record { live = false; free = 0 }) past) in
          omega arith)
    ]

    few : (w : ℕ) (b : Bool) → cond b (slots_of wave w) 0 ≤ MAX_SLOTS
    few w true = (let most = line w in elim (cases_Bool (worker_at wave w).live) [
      | inl live ↦ rw live most
      | inr dead ↦ rw dead (omega arith)
    ])
    few w false = omega arith
