-- What each step makes of a view, and what a pass with every part learns.
use Rattle.std.specs.Prelude.{ℕ, ◌+◌, Bool, ◌&&◌, List, [], ◌∷◌, ◌++◌, map}
use Rattle.lane_queue.specs.declared.order.Order.{Order}
use Rattle.lane_queue.specs.declared.view.View.{View}
use Rattle.lane_queue.specs.Orders.{is_alone, Settles}
use Rattle.lane_queue.specs.Lanes.{AreWhole}

abbrev pub hand : List Order → List Order → List ℕ → Bool → View
hand ps ts ds b = record { puts = ps; takes = ts; depths = ds; ordered = b }

-- an order more was put
abbrev pub putting : View → Order → View
putting v x = hand (v.puts ++ x ∷ []) v.takes v.depths v.ordered

-- an order more was taken
abbrev pub taking : View → Order → View
taking v x = hand v.puts (v.takes ++ x ∷ []) v.depths v.ordered

-- each part is halved
abbrev pub deeper : List ℕ → List ℕ
deeper ds = map (λ d. d + 1) ds

-- what two passes know together
abbrev pub both : View → View → View
both v w =
    hand (v.puts ++ w.puts) (v.takes ++ w.takes) (v.depths ++ w.depths)
    ((is_alone v.puts w.puts && is_alone v.takes w.takes) && (v.ordered && w.ordered))

-- the one depth of a pass that was not gathered yet
abbrev pub depth_of : List ℕ → ℕ
depth_of [] = 0
depth_of (d ∷ ds) = d

-- what a pass with every part knows of the orders in the lane
abbrev pub Totals : View → List Order → Type 0
Totals v items = AreWhole v.depths → Settles v.ordered v.puts v.takes items
