use Rattle.std.proofs.Common.{◌≡◌, ℕ, ◌*◌, ◌≤◌, arith}
use borrow.Author.Count.{below_more}
use Rattle.tree_planner.specs.Searching.{far_at, order_at, reached_at}
use Rattle.tree_planner.proofs.nearest.nearest_in.Goals as goal

pub loop-k-preserved : goal.loop-k-preserved
loop-k-preserved c =
    let search = c.args.search.now in
    let i = c.loop-k.invariant in
    let k = c.loop-k.k in
    let at = c.nearer-best.ensures in
    record {
      fresh = at.fresh i.fresh (omega arith);
      seen = below_more (λ (k : ℕ). c.args.block * 32 ≤ k → order_at search (reached_at search k) ≡ 0
          → c.nearer-best.result.far ≤ far_at search (reached_at search k)) k
          (λ j l past none. (let before = i.seen j l past none in let least = at.least in omega arith))
          (λ past. at.here);
    }
