-- A node from which all steps were taken.
use Rattle.std.proofs.Common.{◌≡◌, ℕ, ◌+◌, ◌*◌, ◌/◌, ◌^◌, ◌<◌, ◌≤◌, ◌∙◌, min, List, length, get_or}
use Rattle.std.proofs.Common.{Contains, sym, ap, subst, inl, inr, arith}
use Rattle.std.specs.Prelude.{◌≢◌}
use Rattle.std.proofs.lemmas.Bool.{cases_lt}
use Rattle.std.proofs.lemmas.List.{get_or_default}
use Rattle.tree_flow.specs.declared.nodes.TreeNode.{TreeNode}
use Rattle.tree_flow.specs.declared.nodes.TreeNode.TheVariants.{Worker}
use Rattle.tree_planner.specs.declared.search.Ground.{Ground}
use Rattle.tree_planner.specs.declared.search.Search.{Search}
use Rattle.wave_problem.specs.Wave.{Wave}
use Rattle.tree_flow.specs.Nodes.{is_under, parent, IsKnown, IsNode}
use Rattle.tree_flow.specs.declared.nodes.End.{End}
use Rattle.tree_flow.specs.declared.nodes.Place.TheVariants.{Stands}
use Rattle.tree_flow.specs.State.{State, place_of, sum_under}
use Rattle.tree_flow.proofs.Certified.{which_above}
use Rattle.tree_flow.proofs.Children.{some_of_sum}
use Rattle.tree_flow.proofs.Ends.{node_known}
use Rattle.tree_planner.specs.Searching.{order_at, far_at, state_at, wave_of, GoesAllOver, HasLookedFrom, Improves}
use Rattle.tree_planner.specs.declared.search.Goal.TheVariants.{Slot}
use Rattle.tree_planner.specs.Searching.{EndsIn, HasStarted, IsSearched}
use Rattle.tree_planner.specs.Reaching.{floor_in}
use Rattle.tree_planner.specs.Searching.{place_at, IsDown, IsGround, IsSearching}
use Rattle.tree_flow.specs.Table.{IsOver}
use Rattle.tree_planner.proofs.Improved.{improves_trans, some_same, down_kept, settle_found}

-- what holds at each place of a list holds of each element of it
pub at_each : {X : Type 0} (xs : List X) (d : X) (P : X → Type 0)
    → ((k : ℕ) → k < length xs → P (get_or xs k d)) → (x : X) → Contains xs x → P x
at_each xs d P h x i = subst P (get_or_default xs i.0 d x i.1 ∙ i.2) (h i.0 i.1)

-- where no floor of a block in use is lower than a distance up to the bound, no node that was not looked from
-- is nearer
pub least_of_all : (g : Ground) (search : Search) (far : ℕ) → IsGround g → IsSearching g search
    → far ≤ search.bound
    → ((block : ℕ) → block * 32 < search.reached.count → far ≤ floor_in search.reached block)
    → (v : TreeNode) → order_at search v ≡ 0 → far ≤ far_at search v
least_of_all g search far ground s most low v none = elim (cases_lt (far_at search v) (2 ^ 60)) [
  | inl near ↦
      (let at = (s.reached.placed v near).0 in
      let floor = s.floors v near none in
      let low = low (place_at search v / 32) (omega arith) in
      omega arith)
  | inr past ↦
      (let bound = s.bound in
      let limit = s.limit in
      let small = ground.small in
      omega arith)
]

-- a node from which all steps were taken, one kind after another
pub looked_all : (g : Ground) (c : TreeNode) (one two three : Search) → 0 < order_at one c
    → Improves one two → Improves two three → IsSearching g three → ((v : TreeNode) → IsDown g one c v)
    → (0 < (state_at g).flow c → min two.bound (far_at two (parent (wave_of g).tree c)) + (state_at g).depth c
    ≤ far_at two c + (state_at g).depth (parent (wave_of g).tree c))
    → ((t : ℕ) → GoesAllOver g three c t)
    → HasLookedFrom g three c
looked_all g c one two three some i j s down up over =
    let second = some_same one two i c some in
    let all = improves_trans one two three i j in
    record {
      down = λ v is room. down_kept one three all.nearer g c v some (down v) is room;
      up = λ flows.
          (let before = up flows in
          let same = j.nearer.settled c second in
          let bound = j.nearer.bound in
          let far = j.nearer.far (parent (wave_of g).tree c) in
          omega arith);
      over = λ t e x stands is is_end.
          (let taken = (over t).over e x stands is is_end in
          let same = ap (λ v. far_at three v) is in
          omega arith);
      out = λ t e stands is.
          (let out = (over t).out e stands is in
          let same = ap (λ v. far_at three v) is in
          omega arith);
      bottom = λ w known is free.
          (let past = s.bottom w known free in
          let far = ap (far_at three) is in
          let depth = ap (state_at g).depth is in
          omega arith);
    }

-- units can go only to a node that the tree has
pub room_known : (wave : Wave) → IsKnown wave → (v : TreeNode) (f : ℕ → ℕ) → 0 < sum_under wave v f
    → IsNode wave.tree v
room_known wave known v f some =
    let found = some_of_sum (length wave.workers) (λ w. is_under wave.tree (Worker w) v) f some in
    let at = which_above wave.tree found.0 v found.2 in
    subst (λ v. IsNode wave.tree v) (sym at.2) (node_known wave found.0 at.0 known found.1)

-- a split stands at one end
pub stands_same : (state : State) (t : ℕ) (e f : End) → place_of state t ≡ Stands e → place_of state t ≡ Stands f
    → e ≡ f
stands_same state t e f one other = grind arith

-- the search has ended, and its goal is put last in order
pub found_goal : (g : Ground) (old new : Search) (v : TreeNode) → IsSearching g old → HasStarted g old
    → ((u : TreeNode) → far_at old u < old.bound → HasLookedFrom g old u) → old.goal ≡ Slot v
    → order_at old v ≡ 0 → new ≡ record old { order = new.order; looked = old.looked + 1 } → IsOver (wave_of g).tree new.order
    → order_at new v ≡ old.looked + 1 → ((u : TreeNode) → u ≢ v → order_at new u ≡ order_at old u)
    → IsSearched g new
found_goal g old new v s started looked goal fresh rest over here others =
    let ends = subst (λ goal. EndsIn g old old.bound goal) goal s.goal in
    subst (λ m. IsSearched g m) (sym rest) (record {
      searching = settle_found g old new.order v s fresh over here others goal ends.reached;
      started = started;
      looked = looked;
    })
