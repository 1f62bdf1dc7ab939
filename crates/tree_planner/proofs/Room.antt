-- Room for a node that a search comes to.
use Rattle.std.proofs.Common.{◌^◌, arith}
use Rattle.std.proofs.lemmas.Bool.{le-ltb}
use Rattle.tree_flow.specs.declared.nodes.TreeNode.{TreeNode}
use Rattle.tree_flow.specs.Nodes.{IsNode}
use Rattle.tree_planner.specs.declared.search.Ground.{Ground}
use Rattle.tree_planner.specs.declared.search.Search.{Search}
use Rattle.tree_planner.specs.Searching.{far_at, has_come, wave_of, IsGround, IsSearching}
use Rattle.tree_planner.specs.Reaching.{HasRoom}
use Rattle.tree_planner.proofs.Added.{has_node}
use Rattle.tree_planner.proofs.Counted.{count_missed}

pub room_left : (g : Ground) (search : Search) → IsGround g → IsSearching g search → (v : TreeNode)
    → IsNode (wave_of g).tree v → HasRoom search.reached v (far_at search v)
room_left g search ground s v known = record {
  node = has_node (wave_of g).tree search.reached.places v s.tables.places known;
  fresh = λ past.
      (let missed = count_missed (has_come search) v (le-ltb (far_at search v) (2 ^ 60) past) g.nodes.now
      (ground.nodes.each v known) in
      let fit = s.fit in
      let room = s.room in
      omega arith);
  placed = λ near. (let at = (s.reached.placed v near).0 in let room = s.reached.room in omega arith);
  floors = s.reached.blocks;
}
