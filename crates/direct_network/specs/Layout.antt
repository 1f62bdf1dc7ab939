-- The numbering of the nodes of the direct network.
use Rattle.std.specs.Prelude.{ℕ, ◌+◌, ◌-◌, Bool, true, nat_lt, if◌then◌else◌, ◌==◌}
use Rattle.direct_network.specs.declared.layout.DirectNode.{DirectNode}
use Rattle.direct_network.specs.declared.layout.DirectNode.TheVariants.{Split, Worker, Unstarted, Sink}

-- the place of a node, where there are s splits and w workers
abbrev pub place_of : ℕ → ℕ → DirectNode → ℕ
place_of s w (Split k) = k
place_of s w (Worker k) = s + k
place_of s w Unstarted = s + w
place_of s w Sink = s + w + 1

-- the node at a place
abbrev pub node_of : ℕ → ℕ → ℕ → DirectNode
node_of s w i =
    if nat_lt i s then Split i else (if nat_lt i (s + w) then Worker (i - s) else
    (if i == s + w then Unstarted else Sink))

-- whether there is such a node
abbrev pub is_node : ℕ → ℕ → DirectNode → Bool
is_node s w (Split k) = nat_lt k s
is_node s w (Worker k) = nat_lt k w
is_node s w Unstarted = true
is_node s w Sink = true
