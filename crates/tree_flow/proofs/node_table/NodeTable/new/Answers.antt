use Rattle.std.proofs.Common.{refl}
use Rattle.tree_flow.proofs.Filled.{filled}
use Rattle.tree_flow.proofs.node_table.NodeTable.new.Goals as goal

pub returns-clause-all : goal.returns-clause-all
returns-clause-all g c =
    filled (record {
      workers = c.in_ok-filled.field-0;
      racks = c.in_ok-filled-2.field-0;
      centres = c.in_ok-filled-3.field-0;
      cluster = c.args.value;
    }) c.args.value c.workers.result c.racks.result c.centres.result c.in_ok-filled.ensures c.in_ok-filled-2.ensures
    c.in_ok-filled-3.ensures refl
