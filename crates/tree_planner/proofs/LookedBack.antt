-- A node from which all steps of a hole were taken.
use Rattle.std.proofs.Common.{◌≡◌, ℕ, ◌+◌, ◌^◌, ◌<◌, ◌≤◌, min, List, length, Contains, Option, Some, None, ap, subst}
use Rattle.std.proofs.Common.{count_by, inl, inr, arith}
use Rattle.std.specs.Prelude.{◌≢◌, ◌==◌, MatchOption}
use Rattle.std.proofs.lemmas.Bool.{cases_lt, eq-eqb, ne_eqb}
use Rattle.tree_flow.specs.declared.nodes.TreeNode.{TreeNode}
use Rattle.tree_planner.specs.declared.back.Hollow.{Hollow}
use Rattle.tree_planner.specs.declared.back.SearchBack.{SearchBack}
use Rattle.tree_flow.specs.Nodes.{parent}
use Rattle.tree_flow.specs.State.{slots_of, sum_under}
use Rattle.tree_planner.specs.SearchingBack.{order_at, far_at, far_of, state_at, wave_of, AreInto}
use Rattle.tree_planner.specs.SearchingBack.{HasLookedFrom, Improves}
use Rattle.tree_planner.specs.Reaching.{node_in}
use Rattle.tree_planner.specs.SearchingBack.{IsDown, IsFresh, IsNearest, IsSearching}
use Rattle.tree_planner.proofs.Counted.{count_less}
use Rattle.tree_planner.proofs.ImprovedBack.{improves_trans, some_same, down_kept}

-- how many nodes a search back has not looked from
abbrev pub open_count : SearchBack → List TreeNode → ℕ
open_count search nodes = count_by (λ v. order_at search v == 0) nodes

-- one node less, where c was looked from
pub open_less : (old new : SearchBack) (nodes : List TreeNode) (c : TreeNode) → Contains nodes c
    → order_at old c ≡ 0
    → 0 < order_at new c → ((v : TreeNode) → v ≢ c → order_at new v ≡ order_at old v)
    → open_count new nodes + 1 ≤ open_count old nodes
open_less old new nodes c among was now others =
    count_less (λ v. order_at old v == 0) (λ v. order_at new v == 0) c (eq-eqb (order_at old c) 0 was)
    (ne_eqb (order_at new c) 0 (λ e. omega arith)) (λ v n. ap (λ (k : ℕ). k == 0) (others v n)) nodes among

-- the nearest of the nodes of the row that were not looked from is the nearest of all
pub found_nearest : (h : Hollow) (search : SearchBack) (best : Option TreeNode) → IsSearching h search
    → IsFresh h search best
    → ((k : ℕ) → k < length search.reached.items → order_at search (node_in search.reached.items k) ≡ 0
    → far_of search best ≤ far_at search (node_in search.reached.items k))
    → MatchOption best ((v : TreeNode) → order_at search v ≡ 0 → search.bound ≤ far_at search v)
    (λ c. IsNearest h search c)
found_nearest h search best s is seen = found best is (λ v none. elim (cases_lt (far_at search v) (2 ^ 60)) [
  | inl near ↦
      (let at = s.reached.row.placed v near in
      subst (λ v. order_at search v ≡ 0 → far_of search best ≤ far_at search v) at.2 (seen at.0 at.1) none)
  | inr past ↦ (let most = near_most best is in let bound = s.bound in omega arith)
])
  where
    near_most : (best : Option TreeNode) → IsFresh h search best → far_of search best ≤ search.bound
    near_most None is = omega arith
    near_most (Some c) is = (let near = is.2 in omega arith)

    found : (best : Option TreeNode) → IsFresh h search best
        → ((v : TreeNode) → order_at search v ≡ 0 → far_of search best ≤ far_at search v)
        → MatchOption best ((v : TreeNode) → order_at search v ≡ 0 → search.bound ≤ far_at search v)
        (λ c. IsNearest h search c)
    found None is least = least
    found (Some c) is least = record { known = is.0; fresh = is.1; near = is.2; least = least }

-- a node from which all steps were taken, one kind after another
pub looked_all : (h : Hollow) (c : TreeNode) (one two three four : SearchBack) → 0 < order_at one c
    → Improves one two → Improves two three → Improves three four
    → (one.bound ≤ far_at one c + (state_at h).depth c)
    → ((state_at h).flow c < sum_under (wave_of h) c (slots_of (wave_of h))
    → min two.bound (far_at two (parent (wave_of h).tree c)) + (state_at h).depth (parent (wave_of h).tree c)
    ≤ far_at two c + (state_at h).depth c)
    → ((v : TreeNode) → IsDown h three c v) → ((t : ℕ) → AreInto h four c t)
    → HasLookedFrom h four c
looked_all h c one two three four some i j k low up down over =
    let second = some_same one two i c some in
    let third = some_same two three j c second in
    let last = improves_trans two three four j k in
    let all = improves_trans one two four i last in
    record {
      down = λ room.
          (let before = up room in
          let same = last.nearer.settled c second in
          let bound = last.nearer.bound in
          let far = last.nearer.far (parent (wave_of h).tree c) in
          omega arith);
      up = λ v is flows. down_kept three four k.nearer h c v third (down v) is flows;
      over = λ s e x stands is_end is. (let into = over s x is_end in into.over e stands is);
      waits = λ s x waits is_end is. (let into = over s x is_end in into.waits waits is);
      low = (let same = all.nearer.settled c some in let bound = all.nearer.bound in omega arith);
    }
