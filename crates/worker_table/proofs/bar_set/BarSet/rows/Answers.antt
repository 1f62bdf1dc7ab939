use Rattle.std.proofs.Common.{arith}
use Rattle.std.proofs.lemmas.List.{drop_more}
use Rattle.node_ids.proofs.Updating.{length-updated}
use Rattle.worker_table.proofs.bar_set.BarSet.rows.Goals as goal

pub loop-pair-preserved : goal.loop-pair-preserved
loop-pair-preserved c = search (arith, drop_more, length-updated)
