use Rattle.tree_planner.specs.SearchingBack.{far_at, order_at}
use Rattle.tree_planner.proofs.Rowed.{all_left}
use Rattle.tree_planner.proofs.back.SearchBack.clear.Goals as goal

pub loop-node-init : goal.loop-node-init
loop-node-init c =
    let search = c.args.self.now in
    record {
      tables = c.requires.tables;
      left = all_left c.args.tree.now (far_at search) (order_at search) search.reached.items c.requires.reached.row
          c.requires.most c.requires.reached.looked;
    }
