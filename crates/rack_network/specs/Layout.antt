-- The numbering of the nodes of the rack network: each arc leads to a higher place.
use Rattle.std.specs.Prelude.{ℕ, ◌+◌, ◌-◌, Bool, true, cond, nat_lt, if◌then◌else◌, ◌==◌}
use Rattle.rack_network.specs.declared.layout.RackNode.{RackNode}
use Rattle.rack_network.specs.declared.layout.RackNode.TheVariants.{Split, Cluster, Centre, Rack, Worker}
use Rattle.rack_network.specs.declared.layout.RackNode.TheVariants.{Unstarted, Sink}

-- how many nodes stand above those of so many data centres: one where there are several
abbrev pub clusters : ℕ → ℕ
clusters c = cond (nat_lt 1 c) 1 0

-- the place of a node, where there are s splits, c centres, r racks and w workers
abbrev pub place_of : ℕ → ℕ → ℕ → ℕ → RackNode → ℕ
place_of s c r w (Split k) = k
place_of s c r w Cluster = s
place_of s c r w (Centre k) = s + clusters c + k
place_of s c r w (Rack k) = s + clusters c + c + k
place_of s c r w (Worker k) = s + clusters c + c + r + k
place_of s c r w Unstarted = s + clusters c + c + r + w
place_of s c r w Sink = s + clusters c + c + r + w + 1

-- the node at a place
abbrev pub node_of : ℕ → ℕ → ℕ → ℕ → ℕ → RackNode
node_of s c r w i =
    if nat_lt i s then Split i else (if nat_lt i (s + clusters c) then Cluster
    else (if nat_lt i (s + clusters c + c) then Centre (i - (s + clusters c))
    else (if nat_lt i (s + clusters c + c + r) then Rack (i - (s + clusters c + c))
    else (if nat_lt i (s + clusters c + c + r + w) then Worker (i - (s + clusters c + c + r))
    else (if i == s + clusters c + c + r + w then Unstarted else Sink)))))

-- whether there is such a node
abbrev pub is_node : ℕ → ℕ → ℕ → ℕ → RackNode → Bool
is_node s c r w (Split k) = nat_lt k s
is_node s c r w Cluster = nat_lt 1 c
is_node s c r w (Centre k) = nat_lt k c
is_node s c r w (Rack k) = nat_lt k r
is_node s c r w (Worker k) = nat_lt k w
is_node s c r w Unstarted = true
is_node s c r w Sink = true
