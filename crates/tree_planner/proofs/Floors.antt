-- The lowest floor of the blocks, and a search whose floors are new.
use Rattle.std.proofs.Common.{◌≡◌, ℕ, ◌-◌, ◌/◌, ◌^◌, ◌<◌, ◌≤◌, ◌⊎◌, List, length, get_or}
use Rattle.std.proofs.Common.{◌∙◌, get_or-set_same, get_or-set_other, length-set, refl, sym, ap, inl, inr}
use Rattle.std.proofs.Common.{subst, arith}
use Rattle.std.proofs.lemmas.Bool.{cases_lt}
use Rattle.std.specs.List.{sum_by}
use Rattle.std.specs.Prelude.{◌≢◌, slice_set}
use Rattle.tree_flow.specs.declared.nodes.TreeNode.{TreeNode}
use Rattle.tree_flow.specs.declared.nodes.TreeNode.TheVariants.{Cluster}
use Rattle.tree_planner.specs.declared.reached.LowBlock.{LowBlock}
use Rattle.tree_planner.specs.declared.reached.Reached.{Reached}
use Rattle.tree_planner.specs.declared.nearest.Candidate.{Candidate}
use Rattle.tree_planner.specs.declared.search.Ground.{Ground}
use Rattle.tree_planner.specs.declared.search.Search.{Search}
use Rattle.tree_planner.specs.Searching.{far_at, floor_at, order_at, place_at, reached_at}
use Rattle.tree_planner.specs.Searching.{AreFloorsNew, Improves, IsCandidate, IsGround, IsNearest}
use Rattle.tree_planner.specs.Searching.{IsSearching}
use Rattle.tree_planner.specs.Reaching.{floor_in, IsLowest}
use Rattle.tree_planner.proofs.Counted.{open_count}
use Rattle.tree_planner.proofs.Improved.{turned_improves, turned_kept}
use Rattle.tree_planner.proofs.Looked.{least_of_all}

-- of the first n blocks none has a lower floor, if it is below a distance, and no other one than the next
pub record IsLowAmong (floors : List ℕ) (n : ℕ) (low : LowBlock) (below : ℕ) : Type 0 where
  pub order : low.floor ≤ low.next
  pub most : low.next ≤ below
  pub block : low.floor < below → low.block < n
  pub floor : low.floor < below → low.floor ≡ get_or floors low.block 0
  pub least : (k : ℕ) → k < n → low.floor ≤ get_or floors k 0
  pub next : (k : ℕ) → k < n → k ≢ low.block → low.next ≤ get_or floors k 0

-- how far the floors lie below a distance
abbrev pub below : ℕ → List ℕ → ℕ
below b floors = sum_by (λ m. b - m) floors

module _ (old new : Search) (rest : AreFloorsNew old new) where
  pub raised_improves : Improves old new
  raised_improves = subst (λ m. Improves old m) (sym rest)
      (turned_improves old old.bound old.goal old.covers old.lows new.reached (omega arith))

  pub floors_kept : (g : Ground) → IsSearching g old
      → length new.reached.floors.items ≡ length old.reached.floors.items
      → ((v : TreeNode) → far_at old v < 2 ^ 60 → order_at old v ≡ 0
      → floor_at new (place_at old v) ≤ far_at old v)
      → IsSearching g new
  floors_kept g s size low = subst (λ m. IsSearching g m) (sym rest)
      (turned_kept old old.bound old.goal old.covers old.lows new.reached (omega arith) g s
      (record { workers = refl; racks = refl; centres = refl }) size low s.goal s.covered s.low)

-- the search has looked from as many nodes
pub open_same : (old new : Search) (nodes : List TreeNode) → AreFloorsNew old new
    → open_count new nodes ≡ open_count old nodes
open_same old new nodes rest = ap (λ m. open_count m nodes) rest

pub floors_trans : (a b c : Search) → AreFloorsNew a b → AreFloorsNew b c → AreFloorsNew a c
floors_trans a b c one two =
    two ∙ ap (λ (m : Search). record m { reached = record m.reached { floors = c.reached.floors } }) one

same_or_other : (n m : ℕ) → (n ≡ m) ⊎ (n ≢ m)
same_or_other n m = elim (cases_lt n m) [
  | inl less ↦ inr (λ e. omega arith)
  | inr past ↦ elim (cases_lt m n) [
    | inl more ↦ inr (λ e. omega arith)
    | inr most ↦ inl (omega arith)
  ]
]

-- the lowest floor rises to the nearest node of its block
module _ (g : Ground) (old : Search) (row : Reached) (low : LowBlock) (best : Candidate)
    (rest : row ≡ record old.reached { floors = row.floors })
    (set : row.floors.items ≡ slice_set old.reached.floors.items low.block best.far)
    (is : IsLowest old.reached low old.bound) (candidate : IsCandidate old best)
    (least : (v : TreeNode) → far_at old v < 2 ^ 60 → order_at old v ≡ 0 → place_at old v / 32 ≡ low.block
    → best.far ≤ far_at old v) (s : IsSearching g old) where
  abbrev new : Search
  new = record old { reached = row }

  pub raised_rest : AreFloorsNew old new
  raised_rest = ap (λ (r : Reached). record old { reached = r }) rest

  within : low.block < length old.reached.floors.items
  within = (let used = is.used in let room = s.reached.room in let blocks = s.reached.blocks in omega arith)

  raised_here : floor_in row low.block ≡ best.far
  raised_here = ap (λ floors. get_or floors low.block 0) set
      ∙ get_or-set_same old.reached.floors.items low.block best.far 0 within

  raised_other : (block : ℕ) → block ≢ low.block → floor_in row block ≡ floor_in old.reached block
  raised_other block n = ap (λ floors. get_or floors block 0) set
      ∙ get_or-set_other old.reached.floors.items low.block block best.far 0 n

  pub raised_kept : IsSearching g new
  raised_kept = floors_kept old new raised_rest g s
      (ap length set ∙ length-set old.reached.floors.items low.block best.far)
      (λ v come none. elim (same_or_other (place_at old v / 32) low.block) [
        | inl e ↦
            (let here = ap (floor_in row) e in
            let same = raised_here in
            let near = least v come none e in
            omega arith)
        | inr n ↦
            (let same = raised_other (place_at old v / 32) n in
            let floor = s.floors v come none in
            omega arith)
      ])

  -- it is the nearest of all, where no other floor is as low
  pub raised_nearest : IsGround g → (best.far ≤ low.floor) ⊎ (best.far < low.next)
      → IsNearest g new (reached_at new best.place)
  raised_nearest ground lowest =
      let near : best.far < old.bound = elim lowest [
        | inl first ↦ (let near = is.near in omega arith)
        | inr first ↦ (let most = is.most in omega arith)
      ] in
      let here = candidate.some (λ e. (let none = candidate.none e in omega arith)) in
      let same : reached_at old best.place ≡ reached_at new best.place =
      sym (ap (λ (r : Reached). get_or r.nodes.items best.place Cluster) rest) in
      subst (λ c. IsNearest g new c) same (record {
        known = s.reached.known best.place here.0;
        fresh = here.1;
        near = (let far = here.2 in omega arith);
        least = λ v none.
            (let far = here.2 in
            let least = least_of_all g new best.far ground raised_kept (omega arith) (λ block used.
            elim (same_or_other block low.block) [
              | inl e ↦ (let same = ap (floor_in row) e in let here = raised_here in omega arith)
              | inr n ↦
                  (let count = ap (λ (r : Reached). r.count) rest in
                  let same = raised_other block n in
                  elim lowest [
                    | inl first ↦ (let low = is.least block (omega arith) in omega arith)
                    | inr first ↦ (let next = is.next block (omega arith) n in omega arith)
                  ])
            ]) v none in
            omega arith);
      })
