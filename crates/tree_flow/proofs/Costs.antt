-- What a start costs, by the level at which its worker meets a live holder.
use Rattle.std.proofs.Common.{◌≡◌, ℕ, zero, suc, ◌*◌, ◌<◌, ◌≤◌, Bool, true, false, List, length, Option}
use Rattle.std.proofs.Common.{refl, sym, ap, ◌∙◌, inl, inr, arith, unwrap_or, Contains, get_or}
use Rattle.std.specs.Prelude.{◌==◌, slice_index}
use Rattle.std.specs.List.{list_any}
use Rattle.std.specs.Option.{option_map}
use Rattle.std.proofs.Math.Nat.{mul-le-mul_left}
use Rattle.std.proofs.lemmas.Bool.{cases_Bool, eq-eqb, false≢true}
use Rattle.std.proofs.lemmas.List.{get_or_default}
use Rattle.std.proofs.lemmas.List.Folds.{list_any_at, Any-from_list_any}
use borrow.Author.Tests.{eqb-true}
use Rattle.rack_tree.specs.Tree.{Tree, centre_at, distance, reach, IsWithinReach}
use Rattle.rack_tree.proofs.Distances.{distance_by, steps_by}
use Rattle.wave_problem.specs.Wave.{Wave, split_at, live_holders, cost}
use Rattle.wave_problem.proofs.Gathered.{least_near}

-- the level at which two workers meet: they are the same, or of one rack, or of one centre, or of the cluster
abbrev pub Meet : Tree → ℕ → ℕ → ℕ → Type 0
Meet tree zero h w = h ≡ w
Meet tree (suc zero) h w = slice_index tree.rack_of h ≡ slice_index tree.rack_of w
Meet tree (suc (suc zero)) h w = centre_at tree h ≡ centre_at tree w
Meet tree (suc (suc (suc level))) h w = Unit {0}

pub scaled-le : (a b : ℕ) → a ≤ 8589934592 → b ≤ 6 → a * b ≤ 51539607552
scaled-le a b few small = let most = mul-le-mul_left a small in omega arith

pub holder_held : (wave : Wave) (s h : ℕ) → Contains (live_holders wave s) h
    → 0 < length (live_holders wave s)
holder_held wave s h a = let some = a.1 in omega arith

-- one passes a test that some element of the list passes
any_of : (p : ℕ → Bool) (xs : List ℕ) (x : ℕ) → Contains xs x → p x ≡ true → list_any p xs ≡ true
any_of p xs x i t = list_any_at p xs i.0 x i.1 (ap p i.2 ∙ t)

found_at : (p : ℕ → Bool) (xs : List ℕ) → list_any p xs ≡ true → (x : ℕ) × Contains xs x × (p x ≡ true)
found_at p xs t = let found = Any-from_list_any p xs t in (found.1, (found.0, found.2, found.3), found.4)

module _ (wave : Wave) (s w : ℕ) where
  abbrev live : List ℕ
  live = live_holders wave s

  abbrev one : Bool
  one = list_any (λ h. h == w) live

  abbrev racks : Bool
  racks = list_any (λ h. slice_index wave.tree.rack_of h == slice_index wave.tree.rack_of w) live

  abbrev centres : Bool
  centres = list_any (λ h. centre_at wave.tree h == centre_at wave.tree w) live

  cost_at : 0 < length live → unwrap_or (cost wave s w) 0 ≡ (split_at wave s).bytes * steps_by one racks centres
  cost_at some = ap (λ (o : Option ℕ). unwrap_or (option_map (λ d. (split_at wave s).bytes * d) o) 0)
      (least_near wave.tree w live some)

  -- a worker that meets a live holder is no further than that level
  steps-le : (h level : ℕ) → Contains live h → Meet wave.tree level h w → steps_by one racks centres ≤ 2 * level
  steps-le h zero among meet = rw (any_of (λ h. h == w) live h among (eq-eqb h w meet)) (omega arith)
  steps-le h (suc zero) among meet =
      rw (any_of (λ h. slice_index wave.tree.rack_of h == slice_index wave.tree.rack_of w) live h among
      (eq-eqb _ _ meet)) (of_rack one centres)
    where
      of_rack : (a c : Bool) → steps_by a true c ≤ 2 * 1
      of_rack true c = omega arith
      of_rack false c = omega arith
  steps-le h (suc (suc zero)) among meet =
      rw (any_of (λ h. centre_at wave.tree h == centre_at wave.tree w) live h among (eq-eqb _ _ meet))
      (of_centre one racks)
    where
      of_centre : (a b : Bool) → steps_by a b true ≤ 2 * 2
      of_centre true b = omega arith
      of_centre false true = omega arith
      of_centre false false = omega arith
  steps-le h (suc (suc (suc level))) among meet = of_all one racks centres
    where
      of_all : (a b c : Bool) → steps_by a b c ≤ 2 * suc (suc (suc level))
      of_all true b c = omega arith
      of_all false true c = omega arith
      of_all false false true = omega arith
      of_all false false false = omega arith

  pub cost-le : (h level : ℕ) → Contains live h → Meet wave.tree level h w
      → unwrap_or (cost wave s w) 0 ≤ (split_at wave s).bytes * (2 * level)
  cost-le h level among meet =
      let scaled = mul-le-mul_left (split_at wave s).bytes (steps-le h level among meet) in
      let is = cost_at (holder_held wave s h among) in omega arith

-- a live holder that meets a worker at the level that a start there costs, which is none beyond the tree
pub record Nearest (wave : Wave) (s w : ℕ) : Type 0 where
  pub holder : ℕ
  pub level : ℕ
  pub among : Contains (live_holders wave s) holder
  pub meet : Meet wave.tree level holder w
  pub within : 2 * level ≤ reach wave.tree
  pub steps : steps_by (one wave s w) (racks wave s w) (centres wave s w) ≡ 2 * level

four-le-reach : (tree : Tree) → 4 ≤ reach tree
four-le-reach tree = grind arith

-- where no live holder meets the worker below the cluster, any does there
at_cluster : (wave : Wave) (s w : ℕ) → IsWithinReach wave.tree → 0 < length (live_holders wave s)
    → one wave s w ≡ false → racks wave s w ≡ false → centres wave s w ≡ false → Nearest wave s w
at_cluster wave s w near some a b c =
    let live : List ℕ = live_holders wave s in
    let h : ℕ = get_or live 0 0 in
    let among : Contains live h = (0, some, get_or_default live 0 h 0 some) in
    let same : (h == w) ≡ false = off (λ h. h == w) a among in
    let rack : (slice_index wave.tree.rack_of h == slice_index wave.tree.rack_of w) ≡ false =
    off (λ h. slice_index wave.tree.rack_of h == slice_index wave.tree.rack_of w) b among in
    let centre : (centre_at wave.tree h == centre_at wave.tree w) ≡ false =
    off (λ h. centre_at wave.tree h == centre_at wave.tree w) c among in
    let far : distance wave.tree h w ≡ 6 = distance_by wave.tree h w ∙ rw (same, rack, centre) refl in
    let most = near.most h w in
    record {
      holder = h;
      level = 3;
      among = among;
      meet = tt;
      within = omega arith;
      steps = rw (a, b, c) refl;
    }
  where
    off : (p : ℕ → Bool) → list_any p (live_holders wave s) ≡ false → Contains (live_holders wave s)
        (get_or (live_holders wave s) 0 0) → p (get_or (live_holders wave s) 0 0) ≡ false
    off p none among = elim (cases_Bool (p (get_or (live_holders wave s) 0 0))) [
      | inl passes ↦ absurd (false≢true (sym none ∙ any_of p (live_holders wave s) _ among passes))
      | inr fails ↦ fails
    ]

pub nearest : (wave : Wave) (s w : ℕ) → IsWithinReach wave.tree → 0 < length (live_holders wave s)
    → Nearest wave s w
nearest wave s w near some = elim (cases_Bool (one wave s w)) [
  | inl a ↦ (let found = found_at (λ h. h == w) (live_holders wave s) a in
      record {
        holder = found.0;
        level = 0;
        among = found.1;
        meet = eqb-true found.0 w found.2;
        within = omega arith;
        steps = rw a refl;
      })
  | inr a ↦ elim (cases_Bool (racks wave s w)) [
    | inl b ↦ (let found = found_at (λ h. slice_index wave.tree.rack_of h == slice_index wave.tree.rack_of w)
        (live_holders wave s) b in
        let few = four-le-reach wave.tree in
        record {
          holder = found.0;
          level = 1;
          among = found.1;
          meet = eqb-true _ _ found.2;
          within = omega arith;
          steps = rw (a, b) refl;
        })
    | inr b ↦ elim (cases_Bool (centres wave s w)) [
      | inl c ↦ (let found = found_at (λ h. centre_at wave.tree h == centre_at wave.tree w)
          (live_holders wave s) c in
          let few = four-le-reach wave.tree in
          record {
            holder = found.0;
            level = 2;
            among = found.1;
            meet = eqb-true _ _ found.2;
            within = omega arith;
            steps = rw (a, b, c) refl;
          })
      | inr c ↦ at_cluster wave s w near some a b c
    ]
  ]
]

pub cost_is : (wave : Wave) (s w : ℕ) → 0 < length (live_holders wave s) → (n : Nearest wave s w)
    → (split_at wave s).bytes * (2 * n.level) ≡ unwrap_or (cost wave s w) 0
cost_is wave s w some n =
    ap (λ (d : ℕ). (split_at wave s).bytes * d) (sym n.steps) ∙ sym (cost_at wave s w some)
