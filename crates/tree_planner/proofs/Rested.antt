-- How far a free slot is from a node.
use Rattle.std.proofs.Common.{◌≡◌, ℕ, ◌-◌, ◌^◌, ◌<◌, ◌≤◌, true, length, ap, subst, sym, arith}
use Rattle.std.proofs.lemmas.Bool.{eqb-true}
use Rattle.tree_flow.specs.declared.nodes.TreeNode.{TreeNode}
use Rattle.tree_flow.specs.declared.nodes.TreeNode.TheVariants.{Worker}
use Rattle.tree_flow.specs.Nodes.{is_under}
use Rattle.tree_flow.specs.State.{sum_under}
use Rattle.tree_flow.specs.Table.{at_node}
use Rattle.tree_flow.proofs.Moved.{under_own}
use Rattle.tree_flow.proofs.Under.{under_worker}
use Rattle.tree_planner.specs.declared.search.Ground.{Ground}
use Rattle.tree_planner.specs.Searching.{next_price, state_at, wave_of, IsGround, IsRest}
use Rattle.tree_planner.proofs.Below.{free_there}

-- no slot is free under the node
pub none_rest : (g : Ground) → IsGround g → (v : TreeNode) → at_node g.tables.now.below v ≡ 0 → IsRest g v (2 ^ 60)
none_rest g ground v none = record {
  found = λ less. absurd (omega arith);
  own = λ w known is some.
      (let sums = ground.tables.sums v in
      let same = ap (λ v. sum_under (wave_of g) v (state_at g).free) is in
      let alone = under_worker (wave_of g) (state_at g).free w known in
      absurd (omega arith));
}

module _ (g : Ground) (ground : IsGround g) (w : ℕ) (known : w < length (wave_of g).workers)
    (some : 0 < at_node g.tables.now.below (Worker w)) where
  -- the next place of a worker costs no less than it is deep
  pub price_deep : (state_at g).depth (Worker w) ≤ next_price g w
  price_deep = ground.kept.level.bottom w known (free_there (wave_of g) g.tables.now ground.tables w known some)

  -- and that is how far its own free slot is
  pub worker_rest : (price : ℕ) → price ≡ next_price g w → IsRest g (Worker w) (price - (state_at g).depth (Worker w))
  worker_rest price is = record {
    found = λ less. record {
      some = (let sums = ground.tables.sums (Worker w) in omega arith);
      near = λ u there under free.
          (let same : w ≡ u = eqb-true w u under in
          let next = ap (λ u. next_price g u) same in
          let deep = price_deep in
          omega arith);
    };
    own = λ u there is_own free.
        (let same : w ≡ u = eqb-true w u
        (subst (λ v. is_under (wave_of g).tree (Worker u) v ≡ true) (sym is_own)
        (under_own (wave_of g).tree (Worker u))) in
        let next = ap (λ u. next_price g u) same in
        let deep = price_deep in
        omega arith);
  }
