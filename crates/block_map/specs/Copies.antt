-- Which copies are to be made, so that each split comes nearer to its target.
use Rattle.std.specs.Prelude.{ℕ, zero, suc, ◌≡◌, ◌<◌, ◌≤◌, ◌⊎◌, ◌==◌, ◌&&◌, Bool, true, not, min, nat_lt}
use Rattle.std.specs.Prelude.{if◌then◌else◌, Option, Some, None, List, [], ◌∷◌, ◌++◌, map, fold, length}
use Rattle.std.specs.Prelude.{slice_index, count_by, All, Contains}
use Rattle.std.specs.List.Sorted.{IsStrictlyIncreasing}
use Rattle.std.specs.Option.{option_map}
use Rattle.rack_tree.specs.Tree.{Tree}
use Rattle.worker_table.specs.Workers.{Workers, is_live}
use Rattle.block_map.specs.Holdings.{holders_of, is_holder}
use Rattle.block_map.specs.declared.CopyOrder.{CopyOrder}

-- what decides which copies are made
pub record Holdings : Type 0 where
  pub workers : Workers
  pub tree : Tree
  pub lists : List (List ℕ)  -- the holders of each split
  pub target : ℕ

abbrev pub holdings : Workers → Tree → List (List ℕ) → ℕ → Holdings
holdings workers tree lists target = record { workers = workers; tree = tree; lists = lists; target = target }

abbrev pub live_count : Workers → ℕ
live_count workers = count_by (λ worker. worker.live) workers.each

-- the split has a holder, and fewer than the lesser of the target and the number of live workers
pub record WantsCopy (h : Holdings) (s : ℕ) : Type 0 where
  pub held : 0 < length (holders_of h.lists s)
  pub few : length (holders_of h.lists s) < min h.target (live_count h.workers)

-- a live worker without a replica of the split
abbrev pub may_hold : Holdings → ℕ → ℕ → Bool
may_hold h s w = is_live h.workers w && not (is_holder h.lists s w)

-- how many of these holders are in a rack
abbrev pub replicas_in : Tree → ℕ → List ℕ → ℕ
replicas_in tree rack holders = count_by (λ holder. slice_index tree.rack_of holder == rack) holders

-- how many replicas of the split are in the worker's rack
abbrev pub replicas_beside : Holdings → ℕ → ℕ → ℕ
replicas_beside h s w = replicas_in h.tree (slice_index h.tree.rack_of w) (holders_of h.lists s)

-- fewer replicas of the split are beside v than beside w, or as many and v is no higher
abbrev pub IsNoWorse : Holdings → ℕ → ℕ → ℕ → Type 0
IsNoWorse h s v w =
    (replicas_beside h s v < replicas_beside h s w)
    ⊎ ((replicas_beside h s v ≡ replicas_beside h s w) × (v ≤ w))

-- from the lowest holder to the worker in whose rack the fewest replicas are, the lowest among equals
pub record IsCopy (h : Holdings) (order : CopyOrder) : Type 0 where
  pub wanted : WantsCopy h order.split
  pub held : Contains (holders_of h.lists order.split) order.from
  pub lowest : All (λ holder. order.from ≤ holder) (holders_of h.lists order.split)
  pub allowed : may_hold h order.split order.to ≡ true
  pub fewest : (w : ℕ) → may_hold h order.split w ≡ true → IsNoWorse h order.split order.to w

-- one copy for each split that wants one, by rising split, and no other
pub record AreCopies (h : Holdings) (orders : List CopyOrder) : Type 0 where
  pub rising : IsStrictlyIncreasing (map (λ order. order.split) orders)
  pub each : All (IsCopy h) orders
  pub all : (s : ℕ) → WantsCopy h s → Contains (map (λ order. order.split) orders) s

-- ---- the same copies, computed

abbrev pub wants_copy : Holdings → ℕ → Bool
wants_copy h s =
    nat_lt 0 (length (holders_of h.lists s))
    && nat_lt (length (holders_of h.lists s)) (min h.target (live_count h.workers))

abbrev pub lowest_of : List ℕ → ℕ
lowest_of [] = 0
lowest_of (n ∷ numbers) = fold min n numbers

-- the best of the workers up to w, where this is the best below w
abbrev pub better : Holdings → ℕ → Option ℕ → ℕ → Option ℕ
better h s None w = if may_hold h s w then Some w else None
better h s (Some b) w =
    if may_hold h s w && nat_lt (replicas_beside h s w) (replicas_beside h s b) then Some w else Some b

-- the worker to copy to, among those below n
abbrev pub best_below : Holdings → ℕ → ℕ → Option ℕ
best_below h s zero = None
best_below h s (suc n) = better h s (best_below h s n) n

-- the copy of the split, if it wants one
abbrev pub copy_at : Holdings → ℕ → Option CopyOrder
copy_at h s =
    if wants_copy h s
    then option_map (λ to. record { split = s; from = lowest_of (holders_of h.lists s); to = to })
    (best_below h s (length h.workers.each))
    else None

abbrev pub one_or_none : Option CopyOrder → List CopyOrder
one_or_none None = []
one_or_none (Some order) = order ∷ []

-- the copies of the splits below n
abbrev pub copies_below : Holdings → ℕ → List CopyOrder
copies_below h zero = []
copies_below h (suc n) = copies_below h n ++ one_or_none (copy_at h n)

abbrev pub all_copies : Holdings → List CopyOrder
all_copies h = copies_below h (length h.lists)
