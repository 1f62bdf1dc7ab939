use Rattle.std.proofs.Common.{◌≡◌, ℕ, ◌≤◌, length, ap, subst, sym, arith}
use borrow.Author.Count.{below_more}
use Rattle.tree_flow.specs.Nodes.{IsNode}
use Rattle.tree_planner.specs.Reaching.{node_in}
use Rattle.tree_planner.specs.SearchingBack.{far_at, far_of, order_at, wave_of}
use Rattle.tree_planner.proofs.LookedBack.{found_nearest}
use Rattle.tree_planner.proofs.back.nearest.Goals as goal

pub loop-node-preserved : goal.loop-node-preserved
loop-node-preserved c =
    let h = c.args.hollow.now in
    let search = c.args.search.now in
    let row = search.reached.items in
    let i = c.loop-node.invariant in
    let k = c.loop-node.node-index in
    let best = c.nearer-best in
    let is = c.deref-node-items.ensures.value in
    let size = ap length is in
    record {
      fresh = best.ensures.fresh h
          (subst (λ xs. IsNode (wave_of h).tree (node_in xs k)) (sym is)
          (c.requires.searching.reached.row.known k (omega arith))) i.fresh;
      seen = below_more (λ (k : ℕ). order_at search (node_in row k) ≡ 0
          → far_of search best.result ≤ far_at search (node_in row k)) k
          (λ j l none. (let before = i.seen j l none in let least = best.ensures.least in omega arith))
          (subst (λ xs. order_at search (node_in xs k) ≡ 0
          → far_of search best.result ≤ far_at search (node_in xs k)) is best.ensures.here);
    }

pub returns : goal.returns
returns c =
    let size = ap length c.deref-node-items.ensures.value in
    found_nearest c.args.hollow.now c.args.search.now c.loop-node.best c.requires.searching
    c.loop-node.invariant.fresh (λ k l. c.loop-node.invariant.seen k (omega arith))
