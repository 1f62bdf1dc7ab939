-- All nodes of a tree in a list.
use Rattle.std.proofs.Common.{[], ℕ, ◌+◌, ◌<◌, List, ◌∷◌, ◌++◌, length, All, Contains}
use borrow.Author.Count.{below_more}
use Rattle.std.proofs.lemmas.List.Elements.{All-push, Contains-append_left, Contains-push}
use Rattle.rack_tree.specs.Tree.{Tree}
use Rattle.tree_flow.specs.declared.nodes.TreeNode.{TreeNode}
use Rattle.tree_flow.specs.declared.nodes.TreeNode.TheVariants.{Worker, Rack, Centre, Cluster}
use Rattle.tree_flow.specs.Nodes.{IsNode, AreNodes}

-- the cluster, and so many centres, racks and workers, stand in the list
pub record IsListed (tree : Tree) (nodes : List TreeNode) (centres racks workers : ℕ) : Type 0 where
  pub known : All (IsNode tree) nodes
  pub cluster : Contains nodes Cluster
  pub has_centres : (c : ℕ) → c < centres → Contains nodes (Centre c)
  pub has_racks : (r : ℕ) → r < racks → Contains nodes (Rack r)
  pub has_workers : (w : ℕ) → w < workers → Contains nodes (Worker w)

module _ (tree : Tree) (nodes : List TreeNode) where
  left : (x y : TreeNode) → Contains nodes x → Contains (nodes ++ y ∷ []) x
  left x y i = Contains-append_left nodes (y ∷ []) x i

  pub list_centre : (c r w : ℕ) → IsListed tree nodes c r w → c < tree.centres
      → IsListed tree (nodes ++ Centre c ∷ []) (c + 1) r w
  list_centre c r w is l = record {
    known = All-push (IsNode tree) nodes (Centre c) is.known l;
    cluster = left Cluster (Centre c) is.cluster;
    has_centres = below_more _ c (λ k m. left (Centre k) (Centre c) (is.has_centres k m)) (Contains-push nodes (Centre c));
    has_racks = λ k m. left (Rack k) (Centre c) (is.has_racks k m);
    has_workers = λ k m. left (Worker k) (Centre c) (is.has_workers k m);
  }

  pub list_rack : (c r w : ℕ) → IsListed tree nodes c r w → r < length tree.centre_of
      → IsListed tree (nodes ++ Rack r ∷ []) c (r + 1) w
  list_rack c r w is l = record {
    known = All-push (IsNode tree) nodes (Rack r) is.known l;
    cluster = left Cluster (Rack r) is.cluster;
    has_centres = λ k m. left (Centre k) (Rack r) (is.has_centres k m);
    has_racks = below_more _ r (λ k m. left (Rack k) (Rack r) (is.has_racks k m)) (Contains-push nodes (Rack r));
    has_workers = λ k m. left (Worker k) (Rack r) (is.has_workers k m);
  }

  pub list_worker : (c r w : ℕ) → IsListed tree nodes c r w → w < length tree.rack_of
      → IsListed tree (nodes ++ Worker w ∷ []) c r (w + 1)
  list_worker c r w is l = record {
    known = All-push (IsNode tree) nodes (Worker w) is.known l;
    cluster = left Cluster (Worker w) is.cluster;
    has_centres = λ k m. left (Centre k) (Worker w) (is.has_centres k m);
    has_racks = λ k m. left (Rack k) (Worker w) (is.has_racks k m);
    has_workers = below_more _ w (λ k m. left (Worker k) (Worker w) (is.has_workers k m)) (Contains-push nodes (Worker w));
  }

  pub all_listed : IsListed tree nodes tree.centres (length tree.centre_of) (length tree.rack_of)
      → AreNodes tree nodes
  all_listed is = record { known = is.known; each = each }
    where
      each : (v : TreeNode) → IsNode tree v → Contains nodes v
      each (Worker w) l = is.has_workers w l
      each (Rack r) l = is.has_racks r l
      each (Centre c) l = is.has_centres c l
      each Cluster l = is.cluster
