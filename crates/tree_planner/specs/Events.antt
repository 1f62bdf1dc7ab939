-- What happens to a wave.
use Rattle.std.specs.Prelude.{ℕ, ◌≡◌, ◌≢◌, ◌+◌, ◌-◌, ◌<◌, ◌↔◌, Bool, false, length, slice_index_or, slice_set}
use Rattle.std.specs.Prelude.{List, None, Option, Some, unwrap_or}
use Rattle.tree_flow.specs.declared.node_table.NodeTable.{NodeTable}
use Rattle.tree_flow.specs.declared.nodes.TreeNode.{TreeNode}
use Rattle.tree_flow.specs.Table.{at_node}
use Rattle.wave_problem.specs.Wave.{reward, split_at, worker_at, Wave}
use Rattle.tree_flow.specs.declared.nodes.End.{End}
use Rattle.tree_flow.specs.declared.nodes.Place.TheVariants.{Unshipped}
use Rattle.tree_flow.specs.Nodes.{IsEnd}
use Rattle.tree_flow.specs.Slots.{with_workers}
use Rattle.tree_flow.specs.State.{State, place_of, slots_of}
use Rattle.tree_planner.specs.Ends.{ends_at, Grouped, HasEnd}

-- the wave in which a worker has so many free slots
abbrev pub with_free : Wave → ℕ → ℕ → Wave
with_free wave w free = with_workers wave (slice_set wave.workers w
    (record { live = (worker_at wave w).live; free = free }))

-- a slot of it more
abbrev pub slot_more : Wave → ℕ → Wave
slot_more wave w = with_free wave w ((worker_at wave w).free + 1)

-- or one less
abbrev pub slot_less : Wave → ℕ → Wave
slot_less wave w = with_free wave w ((worker_at wave w).free - 1)

-- the wave in which a split waits for a start, or does not
abbrev pub with_pending : Wave → ℕ → Bool → Wave
with_pending wave s pending = record wave {
  splits = slice_set wave.splits s (record (split_at wave s) { pending = pending });
}

-- the wave after s has started on w
abbrev pub started : Wave → ℕ → ℕ → Wave
started wave s w = with_pending (slot_less wave w) s false

-- one node's number has grown
abbrev pub IsAdded : NodeTable ℕ → NodeTable ℕ → TreeNode → ℕ → Type 0
IsAdded old new node more = (at_node new node ≡ at_node old node + more)
    × ((v : TreeNode) → v ≢ node → at_node new v ≡ at_node old v)

-- the workers can give as many slots
pub record HasSameSlots (old new : Wave) : Type 0 where
  pub workers : length new.workers ≡ length old.workers
  pub slots : (w : ℕ) → slots_of new w ≡ slots_of old w

-- the splits have as many bytes
pub record HasSameBytes (old new : Wave) : Type 0 where
  pub splits : length new.splits ≡ length old.splits
  pub bytes : (s : ℕ) → (split_at new s).bytes ≡ (split_at old s).bytes

-- waves of one tree, which can differ in their splits' ends alone
pub record IsLike (old new : Wave) : Type 0 where
  pub tree : new.tree ≡ old.tree
  pub slots : HasSameSlots old new
  pub bytes : HasSameBytes old new
  pub same_reward : reward new ≡ reward old

-- the ends of a split in the second wave, or nothing where the first wave has the same ends
abbrev pub IsOtherEnds : Wave → Wave → ℕ → Option Grouped → Type 0
IsOtherEnds old new s None = (e : End) → IsEnd new s e ↔ IsEnd old s e
IsOtherEnds old new s (Some ends) = (e : End) → HasEnd new.tree ends e ↔ IsEnd new s e

-- what is said of the split s in a list
abbrev pub other_at : List (Option Grouped) → ℕ → Option Grouped
other_at others s = slice_index_or others s None

-- so it is with each split
pub record AreOtherEnds (old new : Wave) (others : List (Option Grouped)) : Type 0 where
  pub size : length others ≡ length new.splits
  pub each : (s : ℕ) → s < length new.splits → IsOtherEnds old new s (other_at others s)

-- a split that has other ends is not shipped
abbrev pub IsOffIfChanged : State → List (Option Grouped) → ℕ → Type 0
IsOffIfChanged state others s = (ends : Grouped) → other_at others s ≡ Some ends → place_of state s ≡ Unshipped

-- each split has the other ends, or keeps its ends
pub record ArePut (old : List Grouped) (others : List (Option Grouped)) (new : List Grouped) : Type 0 where
  pub size : length new ≡ length old
  pub each : (s : ℕ) → ends_at new s ≡ unwrap_or (other_at others s) (ends_at old s)
