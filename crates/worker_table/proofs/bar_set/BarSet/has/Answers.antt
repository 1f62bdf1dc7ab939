use Rattle.std.proofs.Common.{◌∙◌, ap, sym}
use Rattle.node_ids.specs.Sets.{has_pair}
use Rattle.worker_table.specs.Bars.{Bars}
use Rattle.worker_table.proofs.Barring.{has-in_rows}
use Rattle.worker_table.proofs.bar_set.BarSet.has.Goals as goal

pub returns : goal.returns
returns c =
    let inside = c.self.inside in
    c.contains.ensures
    ∙ sym (has-in_rows inside.splits inside.pairs.keys c.args.split c.args.worker c.self.invariant.known)
    ∙ ap (λ (b : Bars). has_pair b.rows c.args.split c.args.worker) c.self.view_is
