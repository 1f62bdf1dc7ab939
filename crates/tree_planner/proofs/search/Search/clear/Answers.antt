use Rattle.std.proofs.Common.{◌^◌, length, refl, ap, ◌∙◌, get_or, sym, arith}
use Rattle.tree_flow.specs.declared.nodes.TreeNode.TheVariants.{Cluster}
use Rattle.tree_planner.specs.declared.reached.Reached.{Reached}
use Rattle.tree_planner.proofs.Added.{over_sized}
use Rattle.tree_planner.proofs.Begun.{forgotten_first, forgotten_next, all_forgotten}
use Rattle.tree_planner.proofs.search.Search.clear.Goals as goal

pub loop-k-init : goal.loop-k-init
loop-k-init c = record {
  tables = c.requires.tables;
  row = refl;
  lows = refl;
  forgotten = forgotten_first c.args.tree.now c.args.self.now c.requires.reached c.requires.short;
}

pub loop-k-preserved : goal.loop-k-preserved
loop-k-preserved c =
    let first = c.args.self.now in
    let now = c.loop-k.self in
    let i = c.loop-k.invariant in
    let far = c.set.new.self in
    let order = c.set-in-loop-k.new.self in
    let here = c.set.ensures.here (2 ^ 60) in
    let none = c.set-in-loop-k.ensures.here 0 in
    record {
      tables = record {
        far = over_sized c.args.tree.now now.far far i.tables.far c.set.ensures.size;
        how = i.tables.how;
        order = over_sized c.args.tree.now now.order order i.tables.order c.set-in-loop-k.ensures.size;
        places = i.tables.places;
        covers = i.tables.covers;
      };
      row = i.row;
      lows = i.lows;
      forgotten = λ v. forgotten_next first now (record now { far = far; order = order }) c.loop-k.k c.at-node.result
          (ap (λ (r : Reached). get_or r.nodes.items c.loop-k.k Cluster) (sym i.row) ∙ sym c.at-node.ensures)
          (omega arith) none (c.set.ensures.others (2 ^ 60)) (c.set-in-loop-k.ensures.others 0) v (i.forgotten v);
    }

pub returns-clause-blank : goal.returns-clause-blank
returns-clause-blank c =
    let i = c.loop-k.invariant in
    all_forgotten c.args.tree.now c.args.self.now c.loop-k.self i.tables
    (ap (λ (r : Reached). length r.nodes.items) i.row)
    (let blocks = c.requires.reached.blocks in
    let same = ap (λ (r : Reached). length r.floors.items) i.row in
    omega arith) c.loop-k.k (omega arith) i.forgotten
