-- What a contract sees of a lane and its passes.
use Rattle.std.specs.Prelude.{◌≡◌, ℕ, ◌-◌, ◌^◌, ◌≤◌, Bool, true, ◌&&◌, List, [], ◌∷◌, ◌++◌}
use Rattle.std.specs.List.{sum_by}
use Rattle.atomic_table.specs.Seated.{TableId}
use Rattle.lane_queue.specs.declared.order.Order.{Order}
use Rattle.lane_queue.specs.Orders.{is_alone}

-- which lane it is, and how many orders it holds at most
pub record LaneValue : Type 0 where
  pub lane : TableId
  pub capacity : ℕ

-- a pass: its lane, what it put and took, and how often its part of the lane was halved
pub record PassValue : Type 0 where
  pub lane : TableId
  pub puts : List Order
  pub takes : List Order
  pub depth : ℕ

-- What a pass knows of the orders that stood in the lane at one moment: one that was never shared knows them
-- all
abbrev pub Knows : PassValue → List Order → Type 0
Knows pass items = pass.depth ≡ 0 → pass.puts ≡ pass.takes ++ items

-- all that the passes put, one after the other
abbrev pub puts_of : List PassValue → List Order
puts_of [] = []
puts_of (p ∷ ps) = p.puts ++ puts_of ps

-- all that the passes took, one after the other
abbrev pub takes_of : List PassValue → List Order
takes_of [] = []
takes_of (p ∷ ps) = p.takes ++ takes_of ps

abbrev pub depths_of : List PassValue → List ℕ
depths_of [] = []
depths_of (p ∷ ps) = p.depth ∷ depths_of ps

-- one pass at most has put, and one at most has taken
abbrev pub one_each : List PassValue → Bool
one_each [] = true
one_each (p ∷ ps) = (is_alone p.puts (puts_of ps) && is_alone p.takes (takes_of ps)) && one_each ps

-- no depth is more
abbrev pub AreAtMost : ℕ → List ℕ → Type 0
AreAtMost most [] = Unit {0}
AreAtMost most (d ∷ ds) = (d ≤ most) × AreAtMost most ds

-- Parts of these depths make up the whole lane, so no other pass was made. It is counted in parts of the
-- depth most.
pub record AreWhole (depths : List ℕ) : Type 0 where
  pub most : ℕ
  pub within : AreAtMost most depths
  pub sum : sum_by (λ d. 2 ^ (most - d)) depths ≡ 2 ^ most
