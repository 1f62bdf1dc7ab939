-- What lanes and board say at the end of a run.
use Rattle.std.specs.Prelude.{ℕ, ◌≡◌, ◌*◌, ◌<◌, max, List, [], ◌∷◌, Some, slice_get, slice_index}
use Rattle.beat_board.specs.Values.{AreToldOnce, AreWithin, ReaderValue, SeatValue, beats_by}
use Rattle.lane_queue.specs.declared.order.Order.{Order}
use Rattle.lane_queue.specs.Lanes.{LaneValue, PassValue, one_each, puts_of, takes_of}
use Rattle.lane_queue.specs.Orders.{Settles}

-- how many orders the lane of a worker with so many slots holds
abbrev pub lane_places : ℕ → ℕ
lane_places slots = max 32 (2 * slots)

-- the first pass of a lane
abbrev pub first_pass : LaneValue → PassValue
first_pass lane = record { lane = lane.lane; puts = []; takes = []; depth = 0 }

-- a pass has half of the lane of this worker
pub record IsHalfOf (lanes : List LaneValue) (worker : ℕ) (pass : PassValue) : Type 0 where
  pub lane : LaneValue
  pub found : slice_get lanes worker ≡ Some lane
  pub of : pass.lane ≡ lane.lane
  pub half : pass.depth ≡ 1

-- A lane was closed by its two passes: each order was taken or is left as often as it was put.
abbrev pub IsHandedOver : PassValue → PassValue → Type 0
IsHandedOver our their =
    let passes = our ∷ their ∷ [] in
    (left : List Order) × Settles (one_each passes) (puts_of passes) (takes_of passes) left

-- each lane was, by its two passes
abbrev pub AreHandedOver : List PassValue → List PassValue → Type 0
AreHandedOver [] [] = Unit {0}
AreHandedOver (our ∷ ours) (their ∷ theirs) = IsHandedOver our their × AreHandedOver ours theirs
AreHandedOver ours theirs = ⊥

-- A board was closed by all its seats. The count of a worker is the sum of the beats of its seats. These were
-- told the numbers up to it, each once, and no look saw more.
pub record AreCounted (seats : List SeatValue) (reader : ReaderValue) : Type 0 where
  pub counts : List ℕ
  pub sums : (w : ℕ) → w < 1024 → slice_index counts w ≡ beats_by w seats
  pub told : (w : ℕ) → w < 1024 → AreToldOnce w (slice_index counts w) seats
  pub seen : AreWithin counts reader.looks
