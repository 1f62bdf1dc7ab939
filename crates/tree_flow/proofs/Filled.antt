-- Values of nodes.
use Rattle.std.proofs.Common.{◌≡◌, ℕ, get_or, replicate, arith}
use Rattle.std.proofs.lemmas.Bool.{cases_lt}
use Rattle.std.proofs.lemmas.List.{get_or-replicate, get_or_past, length-replicate}
use Rattle.tree_flow.specs.declared.node_table.NodeTable.{NodeTable}
use Rattle.tree_flow.specs.declared.nodes.TreeNode.{TreeNode}
use Rattle.tree_flow.specs.declared.nodes.TreeNode.TheVariants.{Worker, Rack, Centre, Cluster}
use Rattle.tree_flow.specs.Table.{at_or}

replicated_at : {X : Type 0} (n v : ℕ) (x : X) → get_or (replicate n x) v x ≡ x
replicated_at n v x = grind (arith, cases_lt, get_or-replicate, get_or_past, length-replicate)

-- a table that was filled with one value has it at each node
pub filled : {T : Type 0} (table : NodeTable T) (value : T) (workers racks centres : ℕ)
    → table.workers.items ≡ replicate workers value → table.racks.items ≡ replicate racks value
    → table.centres.items ≡ replicate centres value → table.cluster ≡ value
    → (v : TreeNode) → at_or table value v ≡ value
filled table value workers racks centres a b c d (Worker w) = rw a (replicated_at workers w value)
filled table value workers racks centres a b c d (Rack r) = rw b (replicated_at racks r value)
filled table value workers racks centres a b c d (Centre e) = rw c (replicated_at centres e value)
filled table value workers racks centres a b c d Cluster = d
