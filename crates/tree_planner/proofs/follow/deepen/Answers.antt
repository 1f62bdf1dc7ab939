use Rattle.std.proofs.Common.{◌^◌, ap, subst, arith, inl, inr}
use Rattle.tree_flow.specs.Table.{at_node}
use Rattle.tree_flow.proofs.Moved.{same_or_not}
use Rattle.tree_planner.proofs.Added.{over_sized}
use Rattle.tree_planner.specs.Searching.{reached_at}
use Rattle.tree_planner.proofs.Changed.{AreChanged, next_changed, none_changed}
use Rattle.tree_planner.proofs.Deeper.{all_deeper, deeper}
use Rattle.tree_planner.proofs.follow.deepen.Goals as goal

pub loop-k-init : goal.loop-k-init
loop-k-init c = record {
  over = c.requires.over;
  low = c.requires.low;
  deeper = none_changed (deeper c.args.worth c.args.search.now) c.args.depth.now (reached_at c.args.search.now);
}

pub deepened-deep-requires-clause-low : goal.deepened-deep-requires-clause-low
deepened-deep-requires-clause-low c =
    let low = c.loop-k.invariant.low c.at-node.result in
    let is = c.get.ensures 0 in
    omega arith

pub loop-k-preserved : goal.loop-k-preserved
loop-k-preserved c =
    let search = c.args.search.now in
    let now = c.loop-k.depth in
    let new = c.set.new.self in
    let i = c.loop-k.invariant in
    let k = c.loop-k.k in
    let node = c.at-node.result in
    let here = c.set.ensures.here 0 in
    let deep = c.deepened-deep.ensures in
    let depth = c.get.ensures 0 in
    let far = c.get-in-loop-k.ensures (2 ^ 60) in
    record {
      over = over_sized c.args.problem.now.tree now new i.over c.set.ensures.size;
      low = λ v. elim (same_or_not v node) [
        | inl e ↦ (let a = ap (at_node new) e in omega arith)
        | inr n ↦ (let same = c.set.ensures.others 0 v n in let low = i.low v in omega arith)
      ];
      deeper = next_changed (deeper c.args.worth search) c.args.depth.now (reached_at search) search.reached.count
          c.requires.reached.once now new k node c.at-node.ensures (omega arith) i.deeper (omega arith)
          (c.set.ensures.others 0);
    }

pub returns : goal.returns
returns c =
    let search = c.args.search.now in
    let i = c.loop-k.invariant in
    record {
      over = i.over;
      low = i.low;
      deeper = all_deeper c.args.problem.now.tree search c.args.worth c.args.depth.now c.loop-k.depth
          c.requires.reached c.requires.small c.requires.low c.requires.bound c.requires.limit
          (subst (AreChanged (deeper c.args.worth search) c.args.depth.now (reached_at search) c.loop-k.depth)
          (omega arith) i.deeper);
    }
